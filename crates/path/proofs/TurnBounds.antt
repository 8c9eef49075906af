-- Every angle that solve_path turns a rotary by is finite and within 37,000 degrees: at every pose, outside the cone
-- and inside it (`pose_turns`), all along the path (`path_turns`). What they say of the lock holds by any map of the
-- rotaries whose signs are at most 1 in size (`lock_turns`, `path_lock_turns`).
use mathlib.Core.Path.{◌≡◌}
use mathlib.Core.Bool.{Bool, true, not, cond, and-eq-true_iff}
use mathlib.Core.List.{List, [], ◌∷◌}
use Prim.Native.Nat.{ℕ, suc, ◌≤◌}
use lib.Dec.{lit≤, lit<}
use lib.ListN.{length}
use lib.Ieee as Ieee
use lib.Ieee.{Float}
use Rattle.std.specs.Prelude.{Err, None, Ok, Option, Result, Some}
use Rattle.float.specs.Helpers.{nought}
use Rattle.float.proofs.UpTo.{UpTo, up_to_more, up_to_mul, size_up_to}
use Rattle.trig.proofs.Choices.{chosen}
use Rattle.refusal.specs.declared.Refusal.{Refusal}
use Rattle.refusal.specs.declared.Cause.{Cause}
use Rattle.geometry.specs.declared.Vec3.{Vec3}
use Rattle.geometry.specs.Vector.{cross, norm, times}
use Rattle.geometry.specs.Direction.{all_finite}
use Rattle.geometry.proofs.Range.{Turnable, up_to_turnable}
use Rattle.chain.specs.declared.Joints.{Joints}
use Rattle.chain.specs.declared.Kinematics.{Kinematics}
use Rattle.chain.specs.declared.Prepared.{Prepared}
use Rattle.chain.specs.declared.ToolPose.{ToolPose}
use Rattle.chain.specs.Check.{within, most_turned}
use Rattle.chain.proofs.NeverFallback.{most_turned_units}
use Rattle.inverse.specs.declared.SolvedAngle.{SolvedAngle}
use Rattle.inverse.specs.Subproblem.{shortest, sp1}
use Rattle.inverse.specs.AxisMap.{axis_map_of, hint_x, hint_y}
use Rattle.inverse.specs.Orientation.{orientation_angles}
use Rattle.inverse.specs.Inverse.{pose_at, misses, joints_at}
use Rattle.inverse.specs.declared.Angles.{Angles}
use Rattle.inverse.specs.declared.AxisMap.{AxisMap}
use Rattle.inverse.specs.declared.SolvedAngle.TheVariants.{Fixed, Free}
use Rattle.inverse.proofs.AngleBounds.{FixedIn, sp1_within, Signs, axis_signs, PairUpTo, RawUpTo, placed_up_to, hint_x_up_to, hint_y_up_to, raw_within, BothTurnable, both_turnable}
use Rattle.path.specs.Unwinding.{unwind_angles, inside, different_branch, has_second}
use Rattle.path.specs.Singular.{in_singular_cone, nearest_pole}
use Rattle.path.specs.Locking.{refused, within_limits, closest_on_circle, fixed_only, toward, fit, fit_second, fit_first, fitted, locks_x, locked_x, locked_y, locked_angles, finite_position, placed_at, locked_joints, strays, limited, unless_straying, cone_solution}
use Rattle.path.specs.Exact.{reached_by, candidate, angles_of, repeats, second_candidate, position_finite, unwound, ranked, ranks_before, closest_or_other, of_ranked, alone, both, of_candidates, of_positions, of_raw, exact_pose}
use Rattle.path.specs.Posing.{set_up, by_frame, solve_one, turned_within, pose_answer}
use Rattle.path.specs.Solving.{poses_in, start_angles, solve_check}
use Rattle.path.specs.declared.Bounds.{Bounds}
use Rattle.inverse.specs.declared.Ranked.{Ranked}
use Rattle.path.specs.declared.Setup.{Setup}
use Rattle.path.specs.declared.SingularFrame.{SingularFrame}
use Rattle.path.proofs.UnwoundBounds.{unwound_within}
use Rattle.path.proofs.Promises.{Holds, locked_or_exact_hold, holds_map, pose_holds}
use Rattle.path.proofs.Room.{StartFits, start_turned}

pair_more : (n m : ℕ) (a : Angles) → n ≤ m → PairUpTo n a → PairUpTo m a
pair_more n m a h A = (up_to_more n m a.a0 h A.0, up_to_more n m a.a1 h A.1)

pub unwound_pair : (two : Bool) (angles previous : Angles) → PairUpTo 36180 angles → PairUpTo 36000 previous → PairUpTo 37000 (unwind_angles two angles previous)
unfolding unwind_angles
unwound_pair two angles previous A P = (
  unwound_within angles.a0 previous.a0 A.0 P.0,
  chosen (UpTo 37000) two _ _ (λ e. unwound_within angles.a1 previous.a1 A.1 P.1) (λ e. up_to_more 36180 37000 angles.a1 (lit≤ tt) A.1),
)

-- ---- outside the cone
abbrev Turned : Joints → Type 0
Turned j = PairUpTo 37000 (angles_of j)

abbrev CandidateUpTo : Option Joints → Type 0
CandidateUpTo (Some j) = PairUpTo 36180 (angles_of j)
CandidateUpTo None = Unit {0}

reached_up_to : (p : Prepared) (target tip : Vec3) (a : Angles) → PairUpTo 36180 a → CandidateUpTo (reached_by p target tip a)
unfolding reached_by joints_at
reached_up_to p target tip a A = chosen CandidateUpTo (misses (pose_at p a nought).axis target) _ _ (λ e. tt) (λ e. A)

candidate_up_to : (p : Prepared) (target tip : Vec3) (raw : Option Angles) → RawUpTo raw → CandidateUpTo (candidate p target tip raw)
candidate_up_to p target tip (Some a) A = reached_up_to p target tip a A
candidate_up_to p target tip None A = tt

second_up_to : (p : Prepared) (target tip : Vec3) (c : Option Joints) (raw : Option Angles) → RawUpTo raw → CandidateUpTo (second_candidate p target tip c raw)
unfolding second_candidate
second_up_to p target tip c raw A = chosen CandidateUpTo (repeats c raw) _ _ (λ e. tt) (λ e. candidate_up_to p target tip raw A)

limits_turned : (b : Bounds) (j : Joints) → Turned j → Holds Turned (within_limits b j)
unfolding within_limits
limits_turned b j h = chosen (Holds Turned) (inside b j) (Ok j) _ (λ e. h) (λ e. tt)

closest_turned : (b : Bounds) (c o : Joints) → Turned c → Turned o → Holds Turned (closest_or_other b c o)
unfolding closest_or_other
closest_turned b c o p q =
    chosen (Holds Turned) (inside b c) (Ok c) _ (λ e. p)
    (λ e. chosen (Holds Turned) (inside b o) _ (within_limits b c) (λ e. chosen (Holds Turned) (different_branch (has_second b) o c) _ (Ok o) (λ e. tt) (λ e. q)) (λ e. limits_turned b c p))

ranked_turned : (b : Bounds) (r q : Ranked) → Turned r.joints → Turned q.joints → Holds Turned (of_ranked b r q)
unfolding of_ranked
ranked_turned b r q g h = chosen (Holds Turned) (ranks_before q r) _ _ (λ e. closest_turned b q.joints r.joints h g) (λ e. closest_turned b r.joints q.joints g h)

module _ (previous : Angles) (P : PairUpTo 36000 previous) where
  unwound_turned : (two : Bool) (j : Joints) → PairUpTo 36180 (angles_of j) → Turned (unwound two previous j)
  unfolding unwound
  unwound_turned two j A = unwound_pair two (angles_of j) previous A P

  alone_turned : (b : Bounds) (j : Joints) → PairUpTo 36180 (angles_of j) → Holds Turned (alone b previous j)
  unfolding alone
  alone_turned b j A = limits_turned b (unwound (has_second b) previous j) (unwound_turned (has_second b) j A)

  both_turned : (b : Bounds) (j k : Joints) → PairUpTo 36180 (angles_of j) → PairUpTo 36180 (angles_of k) → Holds Turned (both b previous j k)
  unfolding both ranked
  both_turned b j k A B = ranked_turned b (ranked (has_second b) previous j) (ranked (has_second b) previous k) (unwound_turned (has_second b) j A) (unwound_turned (has_second b) k B)

  candidates_turned : (b : Bounds) (c d : Option Joints) → CandidateUpTo c → CandidateUpTo d → Holds Turned (of_candidates b previous c d)
  candidates_turned b (Some j) (Some k) A B = both_turned b j k A B
  candidates_turned b (Some j) None A B = alone_turned b j A
  candidates_turned b None (Some k) A B = alone_turned b k B
  candidates_turned b None None A B = tt

  positions_turned : (b : Bounds) (c d : Option Joints) → CandidateUpTo c → CandidateUpTo d → Holds Turned (of_positions b previous c d)
  unfolding of_positions
  positions_turned b c d A B =
      chosen (Holds Turned) (not (position_finite c)) _ _ (λ e. tt) (λ e. chosen (Holds Turned) (not (position_finite d)) _ _ (λ e. tt) (λ e. candidates_turned b c d A B))

  exact_turned : (s : Setup) (target tip : Vec3) → Holds Turned (exact_pose s target tip previous)
  unfolding exact_pose of_raw
  exact_turned s target tip =
      let R = raw_within s.chain target previous P in
      let raw = orientation_angles s.chain target previous in
      positions_turned s.bounds _ _ (candidate_up_to s.chain target tip raw.first R.0) (second_up_to s.chain target tip (candidate s.chain target tip raw.first) raw.second R.1)

-- ---- inside the cone
abbrev FitUpTo : Option Float → Type 0
FitUpTo (Some angle) = UpTo 180 angle
FitUpTo None = Unit {0}

only_up_to : (a : Option SolvedAngle) → FixedIn a → FitUpTo (fixed_only a)
only_up_to (Some (Fixed angle)) A = A
only_up_to (Some Free) A = tt
only_up_to None A = tt

toward_up_to : (axis point : Vec3) (n : Option Vec3) → FitUpTo (toward axis point n)
toward_up_to axis point (Some c) = only_up_to (sp1 axis point c) (sp1_within axis point c)
toward_up_to axis point None = tt

fit_up_to : (axis point query : Vec3) → FitUpTo (fit axis point query)
unfolding fit
fit_up_to axis point query = toward_up_to axis point (closest_on_circle axis point query)

fitted_up_to : (f : Option Float) (kept : Float) → FitUpTo f → UpTo 36000 kept → UpTo 36000 (fitted f kept)
fitted_up_to (Some angle) kept F K = up_to_more 180 36000 angle (lit≤ tt) F
fitted_up_to None kept F K = K

module _ (m : AxisMap) (S : Signs m) (spindle target : Vec3) (previous : Angles) (P : PairUpTo 36000 previous) where
  pub lock_x_turned : UpTo 36000 (times m.x_sign (hint_x m previous))
  lock_x_turned = up_to_mul 1 36000 _ _ (lit< tt) S.0 (hint_x_up_to 36000 m previous P)

  pub lock_y_turned : UpTo 36000 (times m.y_sign (hint_y m previous))
  lock_y_turned = up_to_mul 1 36000 _ _ (lit< tt) S.1 (hint_y_up_to 36000 m previous P)

  locked_x_turned : PairUpTo 36000 (locked_x m spindle target previous)
  unfolding locked_x fit_second
  locked_x_turned =
      placed_up_to 36000 m _ _ (hint_x_up_to 36000 m previous P)
      (up_to_mul 1 36000 _ _ (lit< tt) S.1 (fitted_up_to (fit_second m spindle target (times m.x_sign (hint_x m previous))) _ (fit_up_to _ _ _) lock_y_turned))

  locked_y_turned : PairUpTo 36000 (locked_y m spindle target previous)
  unfolding locked_y fit_first
  locked_y_turned =
      placed_up_to 36000 m _ _
      (up_to_mul 1 36000 _ _ (lit< tt) S.0 (fitted_up_to (fit_first m spindle target (times m.y_sign (hint_y m previous))) _ (fit_up_to _ _ _) lock_x_turned))
      (hint_y_up_to 36000 m previous P)

  locked_up_to : (onSecond : Bool) → PairUpTo 36000 (locked_angles m onSecond spindle target previous)
  unfolding locked_angles
  locked_up_to onSecond = chosen (PairUpTo 36000) (locks_x m onSecond) _ _ (λ e. locked_x_turned) (λ e. locked_y_turned)

placed_turned : (p : Prepared) (tip : Vec3) (a : Angles) → PairUpTo 37000 a → Holds Turned (placed_at p tip a)
unfolding placed_at finite_position joints_at
placed_turned p tip a A =
    let j = joints_at p a tip (pose_at p a nought).tip in
    chosen (Holds Turned) (all_finite j.xyz) (Ok j) (refused Cause.NotFinite) (λ e. A) (λ e. tt)

limited_turned : (b : Bounds) (a : Result Joints Refusal) → Holds Turned a → Holds Turned (limited b a)
limited_turned b (Ok j) h = limits_turned b j h
limited_turned b (Err r) h = tt

straying_turned : (s : Setup) (target : Vec3) (pole a : Result Joints Refusal) → Holds Turned pole → Holds Turned a → Holds Turned (unless_straying s target pole a)
straying_turned s target pole (Ok j) g h = chosen (Holds Turned) (strays s target j) pole _ (λ e. g) (λ e. limits_turned s.bounds j h)
straying_turned s target pole (Err r) g h = tt

-- `locked_joints` by any map of the rotaries: in the map of a chain of one something stands for the second, and the
-- bounds hold whatever that is
unfoldable pub locked_by : AxisMap → Setup → Bool → Vec3 → Vec3 → Angles → Result Joints Refusal
locked_by m s onSecond target tip previous =
    cond (Ieee.lt (norm (cross m.wa m.wb)) shortest) (refused Cause.PoseUnreachable)
    (placed_at s.chain tip
    (unwind_angles (has_second s.bounds) (locked_angles m onSecond s.chain.spindle target previous) previous))

module _ (m : AxisMap) (S : Signs m) (s : Setup) (previous : Angles) (P : PairUpTo 36000 previous) where
  unwound_locked : (onSecond : Bool) (target : Vec3) → PairUpTo 37000 (unwind_angles (has_second s.bounds) (locked_angles m onSecond s.chain.spindle target previous) previous)
  unwound_locked onSecond target =
      unwound_pair (has_second s.bounds) _ previous (pair_more 36000 36180 _ (lit≤ tt) (locked_up_to m S s.chain.spindle target previous P onSecond)) P

  turned_by : (onSecond : Bool) (target tip : Vec3) → Holds Turned (locked_by m s onSecond target tip previous)
  unfolding locked_by
  turned_by onSecond target tip =
      chosen (Holds Turned) (Ieee.lt (norm (cross m.wa m.wb)) shortest) _ _ (λ e. tt)
      (λ e. placed_turned s.chain tip _ (unwound_locked onSecond target))

module _ (s : Setup) (previous : Angles) (P : PairUpTo 36000 previous) where
  locked_turned : (onSecond : Bool) (target tip : Vec3) → Holds Turned (locked_joints s onSecond target tip previous)
  unfolding locked_joints locked_by
  locked_turned onSecond target tip = turned_by (axis_map_of s.chain) (axis_signs s.chain) s previous P onSecond target tip

  cone_turned : (f : SingularFrame) (target tip : Vec3) → Holds Turned (cone_solution s f target tip previous)
  unfolding cone_solution
  cone_turned f target tip =
      let pole = locked_joints s f.on_second (nearest_pole target f.direction) tip previous in
      straying_turned s target (limited s.bounds pole) (locked_joints s f.on_second target tip previous)
      (limited_turned s.bounds pole (locked_turned f.on_second (nearest_pole target f.direction) tip))
      (locked_turned f.on_second target tip)

  frame_turned : (target tip : Vec3) (f : Option SingularFrame) → Holds Turned (by_frame s target tip previous f)
  frame_turned target tip (Some f) =
      chosen (Holds Turned) (in_singular_cone f s.cone target) _ _
      (λ e. locked_or_exact_hold Turned (cone_solution s f target tip previous) (exact_pose s target tip previous) (cone_turned f target tip) (exact_turned previous P s target tip))
      (λ e. exact_turned previous P s target tip)
  frame_turned target tip None = exact_turned previous P s target tip

  one_turned : (target tip : Vec3) → Holds Turned (solve_one s target tip previous)
  unfolding solve_one
  one_turned target tip = frame_turned target tip s.frame

-- ---- what holds at a pose: every angle at which a turn is taken
abbrev pub RawTurnable : Option Angles → Type 0
RawTurnable (Some a) = BothTurnable a
RawTurnable None = Unit {0}

raw_turnable : (raw : Option Angles) → RawUpTo raw → RawTurnable raw
raw_turnable (Some a) A = both_turnable 36180 a (lit≤ tt) A
raw_turnable None A = tt

pub record PoseTurns (s : Setup) (previous : Angles) : Type 0 where
  -- outside the cone: both raw pairs, at which `reached_by` takes the axis, the tip and the position
  pub first : (target : Vec3) → RawTurnable (orientation_angles s.chain target previous).first
  pub second : (target : Vec3) → RawTurnable (orientation_angles s.chain target previous).second
  -- inside: the locked rotary's angle in `fit_second`, that in `fit_first`
  pub lock_x : Turnable (times (axis_map_of s.chain).x_sign (hint_x (axis_map_of s.chain) previous))
  pub lock_y : Turnable (times (axis_map_of s.chain).y_sign (hint_y (axis_map_of s.chain) previous))
  -- the angles of `placed_at`, toward the target and toward a pole
  pub locked : (onSecond : Bool) (target : Vec3) → BothTurnable (unwind_angles (has_second s.bounds) (locked_angles (axis_map_of s.chain) onSecond s.chain.spindle target previous) previous)
  -- the joints that `strays` takes the axis of
  pub tested : (onSecond : Bool) (target tip : Vec3) → Holds (λ j. BothTurnable (angles_of j)) (locked_joints s onSecond target tip previous)

-- what holds of the lock by any map
pub record LockTurns (m : AxisMap) (s : Setup) (previous : Angles) : Type 0 where
  pub lock_x : Turnable (times m.x_sign (hint_x m previous))
  pub lock_y : Turnable (times m.y_sign (hint_y m previous))
  pub locked : (onSecond : Bool) (target : Vec3) → BothTurnable (unwind_angles (has_second s.bounds) (locked_angles m onSecond s.chain.spindle target previous) previous)
  pub tested : (onSecond : Bool) (target tip : Vec3) → Holds (λ j. BothTurnable (angles_of j)) (locked_by m s onSecond target tip previous)

pub lock_turns : (m : AxisMap) → Signs m → (s : Setup) (previous : Angles) → PairUpTo 36000 previous → LockTurns m s previous
lock_turns m S s previous P = record {
  lock_x = up_to_turnable 36000 _ (lit≤ tt) (lock_x_turned m S s.chain.spindle s.chain.spindle previous P);
  lock_y = up_to_turnable 36000 _ (lit≤ tt) (lock_y_turned m S s.chain.spindle s.chain.spindle previous P);
  locked = λ onSecond target. both_turnable 37000 _ (lit≤ tt) (unwound_locked m S s previous P onSecond target);
  tested = λ onSecond target tip. holds_map Turned (λ j. BothTurnable (angles_of j)) (λ j A. both_turnable 37000 (angles_of j) (lit≤ tt) A) (locked_by m s onSecond target tip previous) (turned_by m S s previous P onSecond target tip);
}

pub pose_turns : (s : Setup) (previous : Angles) → PairUpTo 36000 previous → PoseTurns s previous
unfolding locked_joints locked_by
pose_turns s previous P =
    let lock = lock_turns (axis_map_of s.chain) (axis_signs s.chain) s previous P in
    record {
      first = λ target. raw_turnable (orientation_angles s.chain target previous).first (raw_within s.chain target previous P).0;
      second = λ target. raw_turnable (orientation_angles s.chain target previous).second (raw_within s.chain target previous P).1;
      lock_x = lock.lock_x;
      lock_y = lock.lock_y;
      locked = lock.locked;
      tested = lock.tested;
    }

-- ---- along the path
turned_up_to : (j : Joints) → Turned j → turned_within j ≡ true → PairUpTo 36000 (angles_of j)
unfolding turned_within within
turned_up_to j A h =
    let t = (and-eq-true_iff (within j.a0 most_turned) (within j.a1 most_turned)).0 h in (
      size_up_to 36000 most_turned most_turned_units j.a0 A.0.s A.0.v A.0.is t.0,
      size_up_to 36000 most_turned most_turned_units j.a1 A.1.s A.1.v A.1.is t.1,
    )

-- from angles within 36,000 degrees a pose comes to such angles
pub pose_angles : (s : Setup) (pose : ToolPose) (previous : Angles) (i : ℕ) → PairUpTo 36000 previous → Holds (λ j. PairUpTo 36000 (angles_of j)) (pose_answer s pose previous i)
pose_angles s pose previous i P =
    holds_map (λ j. Turned j × (turned_within j ≡ true)) (λ j. PairUpTo 36000 (angles_of j)) (λ j h. turned_up_to j h.0 h.1) (pose_answer s pose previous i)
    (pose_holds Turned s previous (one_turned s previous P) pose i)

-- what P says of the angles before a pose, at every pose that solve_path comes to
unfoldable pub EachPose : (Setup → Angles → Type 0) → Setup → Angles → ℕ → List ToolPose → Type 0
EachPose P s previous i [] = Unit {0}
EachPose P s previous i (pose ∷ l) = P s previous × Holds (λ j. EachPose P s (angles_of j) (suc i) l) (pose_answer s pose previous i)

each_pose : (P : Setup → Angles → Type 0) → ((s : Setup) (previous : Angles) → PairUpTo 36000 previous → P s previous)
    → (s : Setup) (l : List ToolPose) (previous : Angles) (i : ℕ) → PairUpTo 36000 previous → EachPose P s previous i l
unfolding EachPose
each_pose P h s [] previous i A = tt
each_pose P h s (pose ∷ l) previous i A = (
  h s previous A,
  holds_map (λ j. PairUpTo 36000 (angles_of j)) (λ j. EachPose P s (angles_of j) (suc i) l) (λ j B. each_pose P h s l (angles_of j) (suc i) B) (pose_answer s pose previous i) (pose_angles s pose previous i A),
)

each_turns : (s : Setup) (l : List ToolPose) (previous : Angles) (i : ℕ) → PairUpTo 36000 previous → EachPose PoseTurns s previous i l
each_turns = each_pose PoseTurns pose_turns

-- solve_path: where its checks pass, at every pose
pub path_turns : (k : Kinematics) (poses : List Float) (start : Option Joints) (cone : Float) (room : ℕ) → StartFits start → solve_check k start cone (length poses) room ≡ Ok tt
    → EachPose PoseTurns (set_up k cone) (start_angles start) 0 (poses_in poses)
path_turns k poses start cone room f e = each_turns (set_up k cone) (poses_in poses) (start_angles start) 0 (start_turned k start cone (length poses) room e f)

-- and of the lock by any map
pub path_lock_turns : (m : AxisMap) → Signs m → (k : Kinematics) (poses : List Float) (start : Option Joints) (cone : Float) (room : ℕ) → StartFits start
    → solve_check k start cone (length poses) room ≡ Ok tt → EachPose (LockTurns m) (set_up k cone) (start_angles start) 0 (poses_in poses)
path_lock_turns m S k poses start cone room f e =
    each_pose (LockTurns m) (lock_turns m S) (set_up k cone) (poses_in poses) (start_angles start) 0 (start_turned k start cone (length poses) room e f)
