-- What the rule for the stops changes (docs/landings/R-8.md).
-- The rule before it stands here as it was: inside the cone the lock answers, whatever it comes to.
-- Both rules answer a pose alike, unless the lock leaves a rotary's limits inside the cone and the exact rule succeeds
-- (`Changed`). They answer a path alike, unless it has such a pose; the poses before the first one are solved alike
-- (`ChangedAt`).
use Prim.Native.Nat.{ℕ, suc, ◌+◌}
use native.Mathlib.Omega.{arith}
use mathlib.Core.Path.{◌≡◌, refl, sym, ap, ◌∙◌}
use mathlib.Core.Bool.{Bool, true, false, not, cond, ◌&&◌, true≢false}
use mathlib.Core.Logic.{◌⊎◌, inl, inr}
use mathlib.Core.List.{List, [], ◌∷◌, ◌++◌}
use lib.Ieee.{Float}
use lib.ListN.{length, get_or, take}
use lib.Seq.{take_at, get_or_at}
use Rattle.std.specs.Prelude.{Err, None, Ok, Option, Result, Some}
use Rattle.refusal.specs.declared.Cause.{Cause}
use Rattle.refusal.specs.declared.Refusal.{Refusal}
use Rattle.geometry.specs.declared.Vec3.{Vec3}
use Rattle.geometry.specs.Direction.{all_finite, unit_direction, along}
use Rattle.chain.specs.Checked.{Checked}
use Rattle.chain.specs.declared.Joints.{Joints}
use Rattle.chain.specs.declared.Kinematics.{Kinematics}
use Rattle.chain.specs.declared.ToolPose.{ToolPose}
use Rattle.chain.specs.Check.{all_within, longest}
use Rattle.inverse.specs.declared.Angles.{Angles}
use Rattle.path.specs.Singular.{in_singular_cone}
use Rattle.path.specs.Locking.{refused, cone_solution}
use Rattle.path.specs.Exact.{angles_of, exact_pose}
use Rattle.path.specs.Posing.{set_up, turned_within, is_limit, leaves_limits, succeeds, locked_or_exact, by_frame, solve_one, with_turns, solved_tip, solved_pose, at_pose, pose_answer}
use Rattle.path.specs.Solving.{PathAnswer, Along, AtPose, Kept, then_on, with_pose, solve_poses, poses_in, start_angles, solve_check, unless_kept, solve_checked, solve_path}
use Rattle.path.specs.declared.Setup.{Setup}
use Rattle.path.specs.declared.SingularFrame.{SingularFrame}
use Rattle.path.proofs.Along.{at_pose_one, along_one, at_pose_along, at_pose_kept}
use Rattle.path.proofs.Walking.{before}

-- ---- inside the cone, of the lock's answer and the exact rule's
-- the lock stands where it does not leave the limits: solved, and refused for anything else
pub lock_stands : (locked exact : Result Joints Refusal) → leaves_limits locked ≡ false → locked_or_exact locked exact ≡ locked
unfolding locked_or_exact
lock_stands locked exact h = rw h

-- and its refusal stands, the letter too, where the exact rule fails: by a refusal, or by an angle past 36,000
pub refusal_stands : (locked exact : Result Joints Refusal) → succeeds exact ≡ false → locked_or_exact locked exact ≡ locked
unfolding locked_or_exact
refusal_stands locked exact h = go (leaves_limits locked) (succeeds exact) h
  where
    go : (b t : Bool) → t ≡ false → cond (b && t) exact locked ≡ locked
    go true true e = absurd (true≢false e)
    go true false e = refl
    go false t e = refl

-- else the exact solution is taken
pub exact_taken : (locked exact : Result Joints Refusal) → leaves_limits locked ≡ true → succeeds exact ≡ true → locked_or_exact locked exact ≡ exact
unfolding locked_or_exact
exact_taken locked exact h t = rw (h, t)

-- ---- the rule before, as `Posing` and `Solving` had it
abbrev pub frame_before : Setup → Vec3 → Vec3 → Angles → Option SingularFrame → Result Joints Refusal
frame_before s target tip previous (Some f) =
    cond (in_singular_cone f s.cone target) (cone_solution s f target tip previous) (exact_pose s target tip previous)
frame_before s target tip previous None = exact_pose s target tip previous

unfoldable pub tip_before : Setup → Vec3 → Vec3 → Angles → Result Joints Refusal
tip_before s target tip previous =
    cond (not (all_finite tip)) (refused Cause.NotFinite)
    (cond (not (all_within tip longest)) (refused Cause.TooLarge)
    (with_turns (frame_before s target tip previous s.frame)))

unfoldable pub pose_before : Setup → ToolPose → Angles → ℕ → Result Joints Refusal
pose_before s pose previous index =
    at_pose (along (unit_direction pose.axis) (refused Cause.PoseUnreachable) (λ target. tip_before s target pose.tip previous)) index

unfoldable pub poses_before : Setup → Angles → ℕ → List ToolPose → PathAnswer
poses_before s previous i [] = Along []
poses_before s previous i (pose ∷ l) = with_pose (pose_before s pose previous i) (λ j. poses_before s (angles_of j) (suc i) l)

unfoldable pub path_before : Kinematics → List Float → Option Joints → Float → ℕ → PathAnswer
path_before k poses start cone room =
    unless_kept (solve_check k start cone (length poses) room) (poses_before (set_up k cone) (start_angles start) 0 (poses_in poses))

-- ---- one pose
-- its tip is good, it lies in the cone, the lock leaves a rotary's limits, and the exact rule succeeds, from the same
-- angles before
pub record Changed (s : Setup) (pose : ToolPose) (previous : Angles) : Type 0 where
  pub target : Vec3
  pub frame : SingularFrame
  pub left : Refusal
  pub joints : Joints
  pub axis : unit_direction pose.axis ≡ Some target
  pub finite : all_finite pose.tip ≡ true
  pub sized : all_within pose.tip longest ≡ true
  pub singular : s.frame ≡ Some frame
  pub cone : in_singular_cone frame s.cone target ≡ true
  pub lock : cone_solution s frame target pose.tip previous ≡ Err left
  pub leaves : is_limit left.cause ≡ true
  pub exact : exact_pose s target pose.tip previous ≡ Ok joints
  pub turns : turned_within joints ≡ true

-- the lock's refusal at a pose
abbrev pub left_at : Refusal → ℕ → Refusal
left_at r i = record { cause = r.cause; at = i; letter = r.letter }

on_left : {A B C : Type 0} → (A → B) → A ⊎ C → B ⊎ C
on_left f (inl a) = inl (f a)
on_left f (inr c) = inr c

module _ (s : Setup) (pose : ToolPose) (previous : Angles) where
  -- such a pose was refused as the lock refuses it, and has the exact solution now
  module _ (c : Changed s pose previous) where
    frame_left : frame_before s c.target pose.tip previous s.frame ≡ Err c.left
    frame_left = ap (frame_before s c.target pose.tip previous) c.singular ∙ locked
      where
        locked : frame_before s c.target pose.tip previous (Some c.frame) ≡ Err c.left
        locked = rw (c.cone, c.lock)

    frame_exact : by_frame s c.target pose.tip previous s.frame ≡ Ok c.joints
    frame_exact = ap (by_frame s c.target pose.tip previous) c.singular ∙ inside ∙ taken
      where
        locked : Result Joints Refusal
        locked = cone_solution s c.frame c.target pose.tip previous

        inside : by_frame s c.target pose.tip previous (Some c.frame) ≡ locked_or_exact locked (exact_pose s c.target pose.tip previous)
        inside = rw c.cone

        taken : locked_or_exact locked (exact_pose s c.target pose.tip previous) ≡ Ok c.joints
        taken = rw (c.lock, c.exact) (exact_taken (Err c.left) (Ok c.joints) c.leaves c.turns)

    pub changed_before : (i : ℕ) → pose_before s pose previous i ≡ Err (left_at c.left i)
    unfolding pose_before tip_before
    changed_before i = rw (c.axis, c.finite, c.sized, frame_left)

    pub changed_now : (i : ℕ) → pose_answer s pose previous i ≡ Ok c.joints
    unfolding pose_answer solved_pose solved_tip solve_one
    changed_now i = rw (c.axis, c.finite, c.sized, frame_exact, c.turns)

  -- every other pose is answered as before
  module _ (target : Vec3) (axis : unit_direction pose.axis ≡ Some target) where
    module _ (finite : all_finite pose.tip ≡ true) (sized : all_within pose.tip longest ≡ true) where
      lock_changes : (f : SingularFrame) → s.frame ≡ Some f → in_singular_cone f s.cone target ≡ true
          → (locked exact : Result Joints Refusal) → cone_solution s f target pose.tip previous ≡ locked → exact_pose s target pose.tip previous ≡ exact
          → (locked_or_exact locked exact ≡ locked) ⊎ Changed s pose previous
      lock_changes f singular cone (Ok j) exact lock e = inl (lock_stands (Ok j) exact refl)
      lock_changes f singular cone (Err r) (Err q) lock e = inl (refusal_stands (Err r) (Err q) refl)
      lock_changes f singular cone (Err r) (Ok j) lock e = go (is_limit r.cause) (turned_within j) refl refl
        where
          go : (b t : Bool) → is_limit r.cause ≡ b → turned_within j ≡ t → (locked_or_exact (Err r) (Ok j) ≡ Err r) ⊎ Changed s pose previous
          go true true h t = inr (record {
            target = target;
            frame = f;
            left = r;
            joints = j;
            axis = axis;
            finite = finite;
            sized = sized;
            singular = singular;
            cone = cone;
            lock = lock;
            leaves = h;
            exact = e;
            turns = t;
          })
          go true false h t = inl (refusal_stands (Err r) (Ok j) t)
          go false b h t = inl (lock_stands (Err r) (Ok j) h)

      frame_changes : (f : Option SingularFrame) → s.frame ≡ f → (by_frame s target pose.tip previous f ≡ frame_before s target pose.tip previous f) ⊎ Changed s pose previous
      frame_changes None e = inl refl
      frame_changes (Some f) e = go (in_singular_cone f s.cone target) refl
        where
          locked : Result Joints Refusal
          locked = cone_solution s f target pose.tip previous

          exact : Result Joints Refusal
          exact = exact_pose s target pose.tip previous

          go : (b : Bool) → in_singular_cone f s.cone target ≡ b → (cond b (locked_or_exact locked exact) exact ≡ cond b locked exact) ⊎ Changed s pose previous
          go true h = lock_changes f e h locked exact refl refl
          go false h = inl refl

    tip_changes : (solved_tip s target pose.tip previous ≡ tip_before s target pose.tip previous) ⊎ Changed s pose previous
    unfolding tip_before solved_tip solve_one
    tip_changes = go (all_finite pose.tip) (all_within pose.tip longest) refl refl
      where
        go : (b c : Bool) → all_finite pose.tip ≡ b → all_within pose.tip longest ≡ c
            → (cond (not b) (refused Cause.NotFinite) (cond (not c) (refused Cause.TooLarge) (with_turns (by_frame s target pose.tip previous s.frame)))
            ≡ cond (not b) (refused Cause.NotFinite) (cond (not c) (refused Cause.TooLarge) (with_turns (frame_before s target pose.tip previous s.frame))))
            ⊎ Changed s pose previous
        go true true e f = on_left (ap with_turns) (frame_changes e f s.frame refl)
        go true false e f = inl refl
        go false c e f = inl refl

  pub pose_changes : (i : ℕ) → (pose_answer s pose previous i ≡ pose_before s pose previous i) ⊎ Changed s pose previous
  unfolding pose_before pose_answer solved_pose
  pose_changes i = on_left (ap (λ (a : Result Joints Refusal). at_pose a i)) (go (unit_direction pose.axis) refl)
    where
      go : (d : Option Vec3) → unit_direction pose.axis ≡ d
          → (along d (refused Cause.PoseUnreachable) (λ target. solved_tip s target pose.tip previous)
          ≡ along d (refused Cause.PoseUnreachable) (λ target. tip_before s target pose.tip previous)) ⊎ Changed s pose previous
      go (Some target) e = tip_changes target e
      go None e = inl refl

-- ---- a path
-- the angles after some joints: of the last set, or those before the first
pub angles_after : Angles → List Joints → Angles
angles_after previous [] = previous
angles_after previous (j ∷ l) = angles_after (angles_of j) l

-- the first pose that changes. Both rules solve the poses before it alike. The old rule refuses the path there, as the
-- lock does; the new one goes on from the exact solution, and the poses after it are solved from its angles
pub record ChangedAt (s : Setup) (previous : Angles) (i : ℕ) (l : List ToolPose) : Type 0 where
  pub front : List ToolPose
  pub pose : ToolPose
  pub rest : List ToolPose
  pub parts : l ≡ front ++ (pose ∷ rest)
  pub done : List Joints
  pub alike_before : poses_before s previous i front ≡ Along done
  pub alike_now : solve_poses s previous i front ≡ Along done
  pub index : ℕ
  pub counted : index ≡ length front + i
  pub changed : Changed s pose (angles_after previous done)
  pub old : poses_before s previous i l ≡ AtPose (left_at changed.left index)
  pub new : solve_poses s previous i l ≡ before done (then_on changed.joints (solve_poses s (angles_of changed.joints) (suc index) rest))

abbrev Compared : Setup → Angles → ℕ → List ToolPose → Type 0
Compared s previous i l = (solve_poses s previous i l ≡ poses_before s previous i l) ⊎ ChangedAt s previous i l

first_changes : (s : Setup) (previous : Angles) (i : ℕ) (pose : ToolPose) (l : List ToolPose) → Changed s pose previous → ChangedAt s previous i (pose ∷ l)
unfolding poses_before solve_poses before angles_after
first_changes s previous i pose l c = record {
  front = [];
  pose = pose;
  rest = l;
  parts = refl;
  done = [];
  alike_before = refl;
  alike_now = refl;
  index = i;
  counted = omega arith;
  changed = c;
  old = rw (changed_before s pose previous c i);
  new = rw (changed_now s pose previous c i);
}

later_changes : (s : Setup) (previous : Angles) (i : ℕ) (pose : ToolPose) (l : List ToolPose) (j : Joints) → pose_before s pose previous i ≡ Ok j → pose_answer s pose previous i ≡ Ok j
    → ChangedAt s (angles_of j) (suc i) l → ChangedAt s previous i (pose ∷ l)
unfolding poses_before solve_poses before angles_after
later_changes s previous i pose l j was is c = record {
  front = pose ∷ c.front;
  pose = c.pose;
  rest = c.rest;
  parts = ap (λ (m : List ToolPose). pose ∷ m) c.parts;
  done = j ∷ c.done;
  alike_before = rw (was, c.alike_before);
  alike_now = rw (is, c.alike_now);
  index = c.index;
  counted = omega arith;
  changed = c.changed;
  old = rw (was, c.old);
  new = rw (is, c.new);
}

pub poses_change : (s : Setup) (l : List ToolPose) (previous : Angles) (i : ℕ) → Compared s previous i l
unfolding poses_before solve_poses
poses_change s [] previous i = inl refl
poses_change s (pose ∷ l) previous i = go (pose_changes s pose previous i) (pose_before s pose previous i) refl (λ j. poses_change s l (angles_of j) (suc i))
  where
    go : (pose_answer s pose previous i ≡ pose_before s pose previous i) ⊎ Changed s pose previous → (a : Result Joints Refusal) → pose_before s pose previous i ≡ a
        → ((j : Joints) → Compared s (angles_of j) (suc i) l) → Compared s previous i (pose ∷ l)
    go (inr c) a e rest = inr (first_changes s previous i pose l c)
    go (inl same) (Err r) e rest = inl (rw (same, e))
    go (inl same) (Ok j) e rest = on (rest j)
      where
        on : Compared s (angles_of j) (suc i) l → Compared s previous i (pose ∷ l)
        on (inl h) = inl (rw (same, e, h))
        on (inr c) = inr (later_changes s previous i pose l j e (same ∙ e) c)

-- ---- in words of a pose alone: whether it lies in the cone, and what the exact rule answers there
abbrev frame_has : Setup → Vec3 → Option SingularFrame → Bool
frame_has s target (Some f) = in_singular_cone f s.cone target
frame_has s target None = false

abbrev pub in_cone : Setup → ToolPose → Bool
in_cone s pose = along (unit_direction pose.axis) false (λ target. frame_has s target s.frame)

abbrev pub exact_at : Setup → ToolPose → Angles → Result Joints Refusal
exact_at s pose previous = along (unit_direction pose.axis) (refused Cause.PoseUnreachable) (λ target. exact_pose s target pose.tip previous)

module _ (s : Setup) (pose : ToolPose) (previous : Angles) (c : Changed s pose previous) where
  changed_inside : in_cone s pose ≡ true
  changed_inside = ap (λ (d : Option Vec3). along d false (λ target. frame_has s target s.frame)) c.axis ∙ ap (frame_has s c.target) c.singular ∙ c.cone

  changed_succeeds : succeeds (exact_at s pose previous) ≡ true
  changed_succeeds = rw (c.axis, c.exact) c.turns

-- ---- the call
on_right : {A B C : Type 0} → (B → C) → A ⊎ B → A ⊎ C
on_right f (inl a) = inl a
on_right f (inr b) = inr (f b)

module _ (k : Kinematics) (poses : List Float) (start : Option Joints) (cone : Float) (room : ℕ) where
  abbrev First : Type 0
  First = ChangedAt (set_up k cone) (start_angles start) 0 (poses_in poses)

  -- a path is answered as before; or it was refused with 24 at a pose in the cone whose exact rule succeeds, and its
  -- answer changes from that pose on
  pub path_changes : (solve_path k poses start cone room ≡ path_before k poses start cone room) ⊎ ((solve_check k start cone (length poses) room ≡ Ok tt) × First)
  unfolding solve_path solve_checked path_before
  path_changes = go (solve_check k start cone (length poses) room) refl
    where
      old : PathAnswer
      old = poses_before (set_up k cone) (start_angles start) 0 (poses_in poses)

      new : PathAnswer
      new = solve_poses (set_up k cone) (start_angles start) 0 (poses_in poses)

      go : (c : Checked) → solve_check k start cone (length poses) room ≡ c
          → (unless_kept c new ≡ unless_kept c old) ⊎ ((solve_check k start cone (length poses) room ≡ Ok tt) × First)
      go (Ok _) e = on_right (λ c. (e, c)) (poses_change (set_up k cone) (poses_in poses) (start_angles start) 0)
      go (Err r) e = inl refl

  path_left : solve_check k start cone (length poses) room ≡ Ok tt → (c : First) → path_before k poses start cone room ≡ AtPose (left_at c.changed.left c.index)
  unfolding path_before
  path_left e c = rw e c.old

  -- an old answer that a first change cannot have had is the answer still
  alike_unless : (answer : PathAnswer) → path_before k poses start cone room ≡ answer → ((c : First) → AtPose (left_at c.changed.left c.index) ≡ answer → ⊥)
      → solve_path k poses start cone room ≡ answer
  alike_unless answer h never = go path_changes
    where
      go : (solve_path k poses start cone room ≡ path_before k poses start cone room) ⊎ ((solve_check k start cone (length poses) room ≡ Ok tt) × First)
          → solve_path k poses start cone room ≡ answer
      go (inl e) = e ∙ h
      go (inr (e, c)) = absurd (never c (sym (path_left e c) ∙ h))

  -- an old success is the same success
  pub served_alike : (l : List Joints) → path_before k poses start cone room ≡ Along l → solve_path k poses start cone room ≡ Along l
  served_alike l h = alike_unless (Along l) h (λ c e. at_pose_along e)

  -- an old refusal before the first pose is the same refusal
  pub kept_alike : (r : Refusal) → path_before k poses start cone room ≡ Kept r → solve_path k poses start cone room ≡ Kept r
  kept_alike r h = alike_unless (Kept r) h (λ c e. at_pose_kept e)

  module _ (r : Refusal) (h : path_before k poses start cone room ≡ AtPose r) where
    -- one at a pose with another number than 24 is the same at the same pose
    pub other_alike : is_limit r.cause ≡ false → solve_path k poses start cone room ≡ AtPose r
    other_alike n = alike_unless (AtPose r) h (λ c e. true≢false (sym c.changed.leaves ∙ ap (λ (q : Refusal). is_limit q.cause) (at_pose_one e) ∙ n))

    at_index : (c : First) → AtPose (left_at c.changed.left c.index) ≡ AtPose r → c.index ≡ r.at
    at_index c e = ap (λ (q : Refusal). q.at) (at_pose_one e)

    front_there : (c : First) → AtPose (left_at c.changed.left c.index) ≡ AtPose r → length c.front ≡ r.at
    front_there c e = let f : c.index ≡ r.at = at_index c e in omega (arith, f, c.counted)

    pose_there : (c : First) → AtPose (left_at c.changed.left c.index) ≡ AtPose r → (d : ToolPose) → get_or (poses_in poses) r.at d ≡ c.pose
    pose_there c e d = ap (λ (l : List ToolPose). get_or l r.at d) c.parts ∙ get_or_at c.front c.pose c.rest d r.at (front_there c e)

    -- so is one outside the cone, 24 too
    pub outside_alike : (d : ToolPose) → in_cone (set_up k cone) (get_or (poses_in poses) r.at d) ≡ false → solve_path k poses start cone room ≡ AtPose r
    outside_alike d out = alike_unless (AtPose r) h (λ c e. true≢false (sym (changed_inside _ _ _ c.changed) ∙ ap (in_cone (set_up k cone)) (sym (pose_there c e d)) ∙ out))

    -- and one where the exact rule fails, by a refusal or by an angle past 36,000, from the angles of the poses before
    pub failing_alike : (d : ToolPose) (done : List Joints) → poses_before (set_up k cone) (start_angles start) 0 (take r.at (poses_in poses)) ≡ Along done
        → succeeds (exact_at (set_up k cone) (get_or (poses_in poses) r.at d) (angles_after (start_angles start) done)) ≡ false
        → solve_path k poses start cone room ≡ AtPose r
    failing_alike d done b f = alike_unless (AtPose r) h never
      where
        never : (c : First) → AtPose (left_at c.changed.left c.index) ≡ AtPose r → ⊥
        never c e =
            let front : take r.at (poses_in poses) ≡ c.front = ap (take r.at) c.parts ∙ take_at c.front (c.pose ∷ c.rest) r.at (front_there c e) in
            let same : c.done ≡ done = along_one (sym c.alike_before ∙ ap (poses_before (set_up k cone) (start_angles start) 0) (sym front) ∙ b) in
            true≢false
            (sym (changed_succeeds _ _ _ c.changed)
            ∙ ap (λ (p : ToolPose). succeeds (exact_at (set_up k cone) p (angles_after (start_angles start) c.done))) (sym (pose_there c e d))
            ∙ ap (λ (l : List Joints). succeeds (exact_at (set_up k cone) (get_or (poses_in poses) r.at d) (angles_after (start_angles start) l))) same
            ∙ f)
