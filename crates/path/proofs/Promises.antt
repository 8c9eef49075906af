-- Every joint set of a path is served: finite, within its limits, within 36,000 degrees, +0.0 for a rotary that is not there.
use Prim.Native.Nat.{ℕ, suc}
use mathlib.Core.Path.{◌≡◌, refl, sym, subst}
use mathlib.Core.Bool.{Bool, true, false, not, cond, ◌&&◌, false≢true, and-eq-true_iff}
use mathlib.Core.List.{List, [], ◌∷◌}
use borrow.Author.Tests.{not-false}
use lib.Dec.{eqb}
use lib.ListN.{length}
use lib.Ieee as Ieee
use lib.Ieee.{Float, nan, inf, fin, of_bits}
use lib.Ieee.Scale.{finite}
use Rattle.std.specs.Prelude.{Err, None, Ok, Option, Result, Some}
use Rattle.float.specs.Helpers.{nought, size_of}
use Rattle.refusal.specs.declared.Refusal.{Refusal}
use Rattle.refusal.specs.declared.Cause.{Cause}
use Rattle.geometry.specs.declared.Vec3.{Vec3}
use Rattle.geometry.specs.Vector.{cross, norm}
use Rattle.geometry.specs.Direction.{all_finite, unit_direction, along}
use Rattle.chain.specs.Checked.{Checked}
use Rattle.chain.specs.declared.Joints.{Joints}
use Rattle.chain.specs.declared.Kinematics.{Kinematics}
use Rattle.chain.specs.declared.Prepared.{Prepared}
use Rattle.chain.specs.declared.ToolPose.{ToolPose}
use Rattle.chain.specs.Check.{within, all_within, longest, most_turned, joints_finite}
use Rattle.chain.specs.Prepared.{prepared, second_spin}
use Rattle.inverse.specs.declared.SolvedAngle.{SolvedAngle}
use Rattle.inverse.specs.Subproblem.{shortest, sp1}
use Rattle.inverse.specs.AxisMap.{axis_map_of}
use Rattle.inverse.specs.Orientation.{orientation_angles, one_joint_angles, one_angle, sign_of}
use Rattle.inverse.specs.UpToTwo.{first_only}
use Rattle.inverse.specs.Inverse.{pose_at, misses, joints_at}
use Rattle.inverse.specs.declared.Angles.{Angles}
use Rattle.path.specs.Unwinding.{unwind_angles, inside, different_branch, has_second}
use Rattle.path.specs.Singular.{singular_frame, in_singular_cone, nearest_pole}
use Rattle.path.specs.Locking.{refused, within_limits, finite_position, placed_at, locked_joints, strays, limited, unless_straying, cone_solution}
use Rattle.path.specs.Exact.{reached_by, candidate, angles_of, second_candidate, position_finite, unwound, ranked, ranks_before, closest_or_other, of_ranked, alone, both, of_candidates, of_positions, of_raw, exact_pose}
use Rattle.path.specs.Posing.{bounds_of, set_up, leaves_limits, succeeds, locked_or_exact, by_frame, solve_one, turned_within, with_turns, solved_tip, solved_pose, at_pose, pose_answer}
use Rattle.path.specs.Solving.{PathAnswer, Along, AtPose, Kept, then_on, with_pose, solve_poses, start_angles, poses_in, solve_check, unless_kept, solve_checked, solve_path}
use Rattle.path.specs.Promise.{Served, OnPath}
use Rattle.path.specs.declared.Bounds.{Bounds}
use Rattle.inverse.specs.declared.Ranked.{Ranked}
use Rattle.path.specs.declared.Setup.{Setup}
use Rattle.path.specs.declared.SingularFrame.{SingularFrame}

-- ---- of the joints of an answer
abbrev pub Holds : (Joints → Type 0) → Result Joints Refusal → Type 0
Holds P (Ok j) = P j
Holds P (Err r) = Unit {0}

cond_holds : (P : Joints → Type 0) (b : Bool) (x y : Result Joints Refusal) → (b ≡ true → Holds P x) → (b ≡ false → Holds P y) → Holds P (cond b x y)
cond_holds P true x y f g = f refl
cond_holds P false x y f g = g refl

abbrev Placed : Joints → Type 0
Placed j = all_finite j.xyz ≡ true

-- placed, and within the limits
abbrev Inside : Bounds → Joints → Type 0
Inside b j = Placed j × (inside b j ≡ true)

within_limits_hold : (b : Bounds) (j : Joints) → Placed j → Holds (Inside b) (within_limits b j)
unfolding within_limits
within_limits_hold b j h = cond_holds (Inside b) (inside b j) (Ok j) _ (λ e. (h, e)) (λ e. tt)

-- ---- outside the cone
closest_inside : (b : Bounds) (c o : Joints) → Placed c → Placed o → Holds (Inside b) (closest_or_other b c o)
unfolding closest_or_other
closest_inside b c o p q =
    cond_holds (Inside b) (inside b c) (Ok c) _ (λ e. (p, e))
    (λ e. cond_holds (Inside b) (inside b o) _ (within_limits b c)
    (λ f. cond_holds (Inside b) (different_branch (has_second b) o c) _ (Ok o) (λ g. tt) (λ g. (q, f)))
    (λ f. within_limits_hold b c p))

ranked_inside : (b : Bounds) (r q : Ranked) → Placed r.joints → Placed q.joints → Holds (Inside b) (of_ranked b r q)
unfolding of_ranked
ranked_inside b r q g h =
    cond_holds (Inside b) (ranks_before q r) _ _ (λ e. closest_inside b q.joints r.joints h g) (λ e. closest_inside b r.joints q.joints g h)

alone_inside : (b : Bounds) (previous : Angles) (j : Joints) → Placed j → Holds (Inside b) (alone b previous j)
unfolding alone unwound
alone_inside b previous j h = within_limits_hold b (unwound (has_second b) previous j) h

both_inside : (b : Bounds) (previous : Angles) (j k : Joints) → Placed j → Placed k → Holds (Inside b) (both b previous j k)
unfolding both ranked unwound
both_inside b previous j k g h = ranked_inside b (ranked (has_second b) previous j) (ranked (has_second b) previous k) g h

candidates_inside : (b : Bounds) (previous : Angles) (c d : Option Joints) → position_finite c ≡ true → position_finite d ≡ true → Holds (Inside b) (of_candidates b previous c d)
candidates_inside b previous (Some j) (Some k) g h = both_inside b previous j k g h
candidates_inside b previous (Some j) None g h = alone_inside b previous j g
candidates_inside b previous None (Some k) g h = alone_inside b previous k h
candidates_inside b previous None None g h = tt

positions_inside : (b : Bounds) (previous : Angles) (c d : Option Joints) → Holds (Inside b) (of_positions b previous c d)
unfolding of_positions
positions_inside b previous c d =
    cond_holds (Inside b) (not (position_finite c)) _ _ (λ e. tt)
    (λ e. cond_holds (Inside b) (not (position_finite d)) _ _ (λ f. tt)
    (λ f. candidates_inside b previous c d (not-false (position_finite c) e) (not-false (position_finite d) f)))

exact_inside : (s : Setup) (target tip : Vec3) (previous : Angles) → Holds (Inside s.bounds) (exact_pose s target tip previous)
unfolding exact_pose of_raw
exact_inside s target tip previous = positions_inside s.bounds previous _ _

-- ---- inside the cone
finite_placed : (j : Joints) → Holds Placed (finite_position j)
unfolding finite_position
finite_placed j = cond_holds Placed (all_finite j.xyz) (Ok j) _ (λ e. e) (λ e. tt)

locked_placed : (s : Setup) (onSecond : Bool) (target tip : Vec3) (previous : Angles) → Holds Placed (locked_joints s onSecond target tip previous)
unfolding locked_joints placed_at
locked_placed s onSecond target tip previous =
    cond_holds Placed (Ieee.lt (norm (cross (axis_map_of s.chain).wa (axis_map_of s.chain).wb)) shortest) (refused Cause.PoseUnreachable) _
    (λ e. tt) (λ e. finite_placed _)

limited_inside : (b : Bounds) (a : Result Joints Refusal) → Holds Placed a → Holds (Inside b) (limited b a)
limited_inside b (Ok j) h = within_limits_hold b j h
limited_inside b (Err r) h = tt

straying_inside : (s : Setup) (target : Vec3) (pole a : Result Joints Refusal) → Holds (Inside s.bounds) pole → Holds Placed a → Holds (Inside s.bounds) (unless_straying s target pole a)
straying_inside s target pole (Ok j) g h = cond_holds (Inside s.bounds) (strays s target j) pole _ (λ e. g) (λ e. within_limits_hold s.bounds j h)
straying_inside s target pole (Err r) g h = tt

cone_inside : (s : Setup) (f : SingularFrame) (target tip : Vec3) (previous : Angles) → Holds (Inside s.bounds) (cone_solution s f target tip previous)
unfolding cone_solution
cone_inside s f target tip previous =
    let pole = locked_joints s f.on_second (nearest_pole target f.direction) tip previous in
    straying_inside s target (limited s.bounds pole) (locked_joints s f.on_second target tip previous)
    (limited_inside s.bounds pole (locked_placed s f.on_second (nearest_pole target f.direction) tip previous))
    (locked_placed s f.on_second target tip previous)

-- ---- one pose
-- what holds of the lock and of the exact solution holds of the one that is taken
pub locked_or_exact_hold : (P : Joints → Type 0) (locked exact : Result Joints Refusal) → Holds P locked → Holds P exact → Holds P (locked_or_exact locked exact)
unfolding locked_or_exact
locked_or_exact_hold P locked exact g h = cond_holds P (leaves_limits locked && succeeds exact) exact locked (λ e. h) (λ e. g)

frame_inside : (s : Setup) (target tip : Vec3) (previous : Angles) (f : Option SingularFrame) → Holds (Inside s.bounds) (by_frame s target tip previous f)
frame_inside s target tip previous (Some f) =
    cond_holds (Inside s.bounds) (in_singular_cone f s.cone target) _ _
    (λ e. locked_or_exact_hold (Inside s.bounds) (cone_solution s f target tip previous) (exact_pose s target tip previous) (cone_inside s f target tip previous) (exact_inside s target tip previous))
    (λ e. exact_inside s target tip previous)
frame_inside s target tip previous None = exact_inside s target tip previous

-- what `P` the solution has, the pose has, with its angles within 36,000 degrees
module _ (P : Joints → Type 0) (s : Setup) (previous : Angles) (solution : (target tip : Vec3) → Holds P (solve_one s target tip previous)) where
  abbrev pub Turned : Joints → Type 0
  Turned j = P j × (turned_within j ≡ true)

  turns_hold : (a : Result Joints Refusal) → Holds P a → Holds Turned (with_turns a)
  turns_hold (Ok j) h = cond_holds Turned (turned_within j) (Ok j) _ (λ e. (h, e)) (λ e. tt)
  turns_hold (Err r) h = tt

  tip_holds : (target tip : Vec3) → Holds Turned (solved_tip s target tip previous)
  unfolding solved_tip
  tip_holds target tip =
      cond_holds Turned (not (all_finite tip)) _ _ (λ e. tt)
      (λ e. cond_holds Turned (not (all_within tip longest)) _ _ (λ f. tt) (λ f. turns_hold (solve_one s target tip previous) (solution target tip)))

  toward_holds : (d : Option Vec3) (tip : Vec3) (r : Result Joints Refusal) → Holds Turned r → Holds Turned (along d r (λ target. solved_tip s target tip previous))
  toward_holds (Some target) tip r h = tip_holds target tip
  toward_holds None tip r h = h

  at_holds : (a : Result Joints Refusal) (i : ℕ) → Holds Turned a → Holds Turned (at_pose a i)
  at_holds (Ok j) i h = h
  at_holds (Err r) i h = h

  pub pose_holds : (pose : ToolPose) (i : ℕ) → Holds Turned (pose_answer s pose previous i)
  unfolding pose_answer solved_pose
  pose_holds pose i = at_holds (solved_pose s pose previous) i (toward_holds (unit_direction pose.axis) pose.tip (refused _) tt)

-- ---- the path
on_holds : (P : Joints → Type 0) (j : Joints) (a : PathAnswer) → P j → OnPath P a → OnPath P (then_on j a)
on_holds P j (Along l) g h = (g, h)
on_holds P j (AtPose r) g h = tt
on_holds P j (Kept r) g h = tt

with_holds : (P : Joints → Type 0) (a : Result Joints Refusal) (rest : Joints → PathAnswer) → Holds P a → ((j : Joints) → OnPath P (rest j)) → OnPath P (with_pose a rest)
with_holds P (Ok j) rest g h = on_holds P j (rest j) g (h j)
with_holds P (Err r) rest g h = tt

poses_hold : (P : Joints → Type 0) (s : Setup) → ((pose : ToolPose) (previous : Angles) (i : ℕ) → Holds P (pose_answer s pose previous i))
    → (l : List ToolPose) (previous : Angles) (i : ℕ) → OnPath P (solve_poses s previous i l)
unfolding solve_poses
poses_hold P s f [] previous i = tt
poses_hold P s f (pose ∷ l) previous i = with_holds P (pose_answer s pose previous i) _ (f pose previous i) (λ j. poses_hold P s f l (angles_of j) (suc i))

-- ---- a chain of one: the second angle is +0.0
abbrev Unused : Joints → Type 0
Unused j = j.a1 ≡ nought

abbrev RawUnused : Option Angles → Type 0
RawUnused (Some a) = a.a1 ≡ nought
RawUnused None = Unit {0}

abbrev CandidateUnused : Option Joints → Type 0
CandidateUnused (Some j) = Unused j
CandidateUnused None = Unit {0}

angle_unused : (a : Option SolvedAngle) (sign : Float) (hint : Angles) → RawUnused (one_angle a sign hint)
angle_unused (Some x) sign hint = refl
angle_unused None sign hint = tt

reached_unused : (p : Prepared) (target tip : Vec3) (a : Angles) → a.a1 ≡ nought → CandidateUnused (reached_by p target tip a)
unfolding reached_by joints_at
reached_unused p target tip a h = go (misses (pose_at p a nought).axis target)
  where
    go : (b : Bool) → CandidateUnused (cond b None (Some (joints_at p a tip (pose_at p a nought).tip)))
    go true = tt
    go false = h

candidate_unused : (p : Prepared) (target tip : Vec3) (raw : Option Angles) → RawUnused raw → CandidateUnused (candidate p target tip raw)
candidate_unused p target tip (Some a) h = reached_unused p target tip a h
candidate_unused p target tip None h = tt

limits_unused : (b : Bounds) (j : Joints) → Unused j → Holds Unused (within_limits b j)
unfolding within_limits
limits_unused b j h = cond_holds Unused (inside b j) (Ok j) _ (λ e. h) (λ e. tt)

candidates_unused : (b : Bounds) (previous : Angles) (c : Option Joints) → has_second b ≡ false → CandidateUnused c → Holds Unused (of_positions b previous c None)
unfolding of_positions alone unwound unwind_angles
candidates_unused b previous (Some j) e h =
    cond_holds Unused (not (all_finite j.xyz)) _ _ (λ f. tt) (λ f. limits_unused b (unwound (has_second b) previous j) (rw e h))
candidates_unused b previous None e h = tt

second_none : (p : Prepared) (target tip : Vec3) (c : Option Joints) → second_candidate p target tip c None ≡ None
unfolding second_candidate
second_none p target tip (Some j) = refl
second_none p target tip None = refl

module _ (k : Kinematics) (cone : Float) (one : eqb k.count 2 ≡ false) where
  no_second : has_second (bounds_of k) ≡ false
  unfolding bounds_of
  no_second = rw one

  absent : (prepared k).second ≡ None
  unfolding prepared second_spin
  absent = rw one

  regular : singular_frame (prepared k) ≡ None
  unfolding singular_frame
  regular = rw absent

  raw_one : (target : Vec3) (hint : Angles) → orientation_angles (prepared k) target hint ≡ first_only (one_joint_angles (prepared k).first (prepared k).spindle target hint)
  unfolding orientation_angles
  raw_one target hint = rw absent

  raw_unused : (target : Vec3) (hint : Angles) → RawUnused (one_joint_angles (prepared k).first (prepared k).spindle target hint)
  unfolding one_joint_angles
  raw_unused target hint = angle_unused (sp1 (prepared k).first.axis (prepared k).spindle target) (sign_of (prepared k).first.carrier) hint

  exact_unused : (target tip : Vec3) (previous : Angles) → Holds Unused (exact_pose (set_up k cone) target tip previous)
  unfolding exact_pose of_raw set_up bounds_of
  exact_unused target tip previous =
      rw (raw_one, second_none)
      (candidates_unused (bounds_of k) previous (candidate (prepared k) target tip (one_joint_angles (prepared k).first (prepared k).spindle target previous)) no_second
      (candidate_unused (prepared k) target tip (one_joint_angles (prepared k).first (prepared k).spindle target previous) (raw_unused target previous)))

  one_unused : (target tip : Vec3) (previous : Angles) → Holds Unused (solve_one (set_up k cone) target tip previous)
  unfolding solve_one set_up
  one_unused target tip previous =
      subst (λ f. Holds Unused (by_frame (set_up k cone) target tip previous f)) (sym regular) (exact_unused target tip previous)

-- ---- an angle of no more than 36,000 degrees is finite
within_finite : (x : Float) → within x most_turned ≡ true → finite x ≡ true
unfolding within size_of Ieee.le of_bits
within_finite nan h = absurd (false≢true h)
within_finite (inf s) h = absurd (false≢true h)
within_finite (fin s m e) h = refl

both_finite : (j : Joints) → Placed j → turned_within j ≡ true → joints_finite j ≡ true
unfolding joints_finite turned_within
both_finite j g h =
    let t = (and-eq-true_iff _ _).0 h in
    rw (g, within_finite j.a0 t.0, within_finite j.a1 t.1)

-- ---- all of it
pub holds_map : (P Q : Joints → Type 0) → ((j : Joints) → P j → Q j) → (a : Result Joints Refusal) → Holds P a → Holds Q a
holds_map P Q f (Ok j) h = f j h
holds_map P Q f (Err r) h = tt

-- within the limits, and where something is so, with an unused angle of +0.0
abbrev Whole : Bounds → Type 0 → Joints → Type 0
Whole b one j = Inside b j × (one → Unused j)

holds_both : (b : Bounds) (one : Type 0) (a : Result Joints Refusal) → Holds (Inside b) a → (one → Holds Unused a) → Holds (Whole b one) a
holds_both b one (Ok j) g h = (g, h)
holds_both b one (Err r) g h = tt

pose_served : (k : Kinematics) (cone : Float) (pose : ToolPose) (previous : Angles) (i : ℕ) → Holds (Served k) (pose_answer (set_up k cone) pose previous i)
unfolding solve_one set_up
pose_served k cone pose previous i =
    let one = eqb k.count 2 ≡ false in
    holds_map (λ j. Whole (bounds_of k) one j × (turned_within j ≡ true)) (Served k)
    (λ j h. record { numbers = both_finite j h.0.0.0 h.1; limits = h.0.0.1; turns = h.1; unused = h.0.1 })
    (pose_answer (set_up k cone) pose previous i)
    (pose_holds (Whole (bounds_of k) one) (set_up k cone) previous
    (λ target tip. holds_both (bounds_of k) one (solve_one (set_up k cone) target tip previous)
    (frame_inside (set_up k cone) target tip previous (singular_frame (prepared k)))
    (λ e. one_unused k cone e target tip previous))
    pose i)

-- every joint set of a path that is solved
kept_served : (P : Joints → Type 0) (c : Checked) (a : PathAnswer) → OnPath P a → OnPath P (unless_kept c a)
kept_served P (Ok _) a h = h
kept_served P (Err r) a h = tt

pub path_served : (k : Kinematics) (poses : List Float) (start : Option Joints) (cone : Float) (room : ℕ) → OnPath (Served k) (solve_path k poses start cone room)
unfolding solve_path solve_checked
path_served k poses start cone room =
    kept_served (Served k) (solve_check k start cone (length poses) room) _
    (poses_hold (Served k) (set_up k cone) (pose_served k cone) (poses_in poses) (start_angles start) 0)
