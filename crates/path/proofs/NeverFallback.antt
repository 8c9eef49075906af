-- `solve_path` takes no fallback: for every chain, pose and start of doubles it is equal to a definition that has none
-- (`path_plain`). In that definition
-- - subproblem 1, the angle to the nearer pole and the angle between two axes are made of arctangents that every two
--   numbers have, and those of the program refuse where one is not finite or no cosine: they never do;
-- - every turn is made of a sine and a cosine, and that of the program is no turn beyond 45,000 degrees: none goes so
--   far;
-- - every pair of angles is given to forward as the Rust calls it, and its refusal is the pose's: it answers none, for
--   the angles are finite and the axis that they reach has a direction;
-- - the rotary that is nearer to the spindle is found by the Rust's loop.
use mathlib.Core.Path.{◌≡◌, refl, sym, ap, ◌∙◌, subst}
use mathlib.Core.Bool.{Bool, true, false, not, cond, false≢true}
use mathlib.Core.List.{List, [], ◌∷◌}
use Prim.Native.Nat.{ℕ, suc}
use lib.Dec.{lit≤}
use lib.ListN.{length}
use lib.Ieee as Ieee
use lib.Ieee.{Float}
use Rattle.std.specs.Prelude.{Err, None, Ok, Option, Result, Some}
use Rattle.std.specs.Option.{unwrap_or}
use Rattle.lists.specs.Each.{Each}
use Rattle.float.specs.Helpers.{nought}
use Rattle.refusal.specs.declared.Refusal.{Refusal}
use Rattle.refusal.specs.declared.Cause.{Cause}
use Rattle.geometry.specs.declared.Vec3.{Vec3}
use Rattle.geometry.specs.Vector.{cross, norm, plus}
use Rattle.geometry.specs.Direction.{all_finite, unit_direction, along}
use Rattle.geometry.specs.Slerp.{half_turn_degrees}
use Rattle.geometry.proofs.Bounded.{SmallVec, vec_raise}
use Rattle.geometry.specs.Doubles.{FitVec}
use Rattle.geometry.proofs.FitVectors.{unit_fits, unit_or_fits}
use Rattle.geometry.proofs.AngleBetween.{plain_angle, angle_between}
use Rattle.geometry.proofs.UnitSize.{unit_small}
use Rattle.chain.specs.Checked.{Checked}
use Rattle.chain.specs.declared.Joints.{Joints}
use Rattle.chain.specs.declared.Kinematics.{Kinematics}
use Rattle.chain.specs.declared.Carrier.TheVariants.{Head}
use Rattle.chain.specs.declared.Spin.{Spin}
use Rattle.chain.specs.declared.Prepared.{Prepared}
use Rattle.chain.specs.declared.ToolPose.{ToolPose}
use Rattle.chain.specs.Check.{chain_check, all_within, longest}
use Rattle.chain.specs.Forward.{turns_of, reach, forward_core}
use Rattle.chain.specs.Prepared.{prepared}
use Rattle.chain.proofs.UnitAxes.{FitAxes, SecondUnit, UnitChain, chain_units}
use Rattle.inverse.specs.Subproblem.{shortest}
use Rattle.inverse.specs.AxisMap.{inner_of, axis_map_of}
use Rattle.inverse.specs.Orientation.{orientation_angles}
use Rattle.inverse.specs.Solutions.{origin}
use Rattle.inverse.specs.Inverse.{pose_at, misses}
use Rattle.inverse.specs.declared.Angles.{Angles}
use Rattle.inverse.specs.UpToTwo.{RawPair}
use Rattle.inverse.proofs.AngleBounds.{PairUpTo, BothTurnable}
use Rattle.inverse.proofs.Arctangents.{plain_sp1, orientation_with, orientation_plain, axis_units}
use Rattle.inverse.proofs.InnerForward.{inner_forward, inner_forward_is, plain_joints, joints_plain}
use Rattle.path.specs.Unwinding.{unwind_angles, has_second}
use Rattle.path.specs.Singular.{millionth, frame_of_two, of_two, singular_frame, in_singular_cone, nearest_pole}
use Rattle.path.specs.Locking.{refused, within_limits, locked_angles, finite_position, placed_at, locked_joints, strays, limited, unless_straying, cone_solution}
use Rattle.path.specs.Exact.{reached_by, candidate, angles_of, repeats, second_candidate, of_positions, of_raw, exact_pose}
use Rattle.path.specs.Posing.{bounds_of, set_up, locked_or_exact, by_frame, solve_one, with_turns, solved_tip, solved_pose, at_pose, pose_answer}
use Rattle.path.specs.Solving.{PathAnswer, Along, then_on, with_pose, solve_poses, start_angles, poses_in, solve_check, unless_kept, solve_checked, solve_path}
use Rattle.path.specs.declared.Setup.{Setup}
use Rattle.path.specs.declared.SingularFrame.{SingularFrame}
use Rattle.path.proofs.Promises.{Holds, holds_map}
use Rattle.path.proofs.Room.{StartFits, chain_passed, start_turned}
use Rattle.path.proofs.TurnBounds.{RawTurnable, PoseTurns, pose_turns, pose_angles}
use Rattle.path.proofs.Arctangents.{loop_frame, frame_loop, plain_clearance, clearance_plain, plain_locked_angles, locked_plain, FrameSmall, two_small, pole_small}

-- ---- the definition without a fallback
-- the pose that forward answers, or its refusal
abbrev pub unless_stopped : Result ToolPose Refusal → (ToolPose → Result Joints Refusal) → Result Joints Refusal
unless_stopped (Ok pose) step = step pose
unless_stopped (Err r) step = Err r

-- outside the cone
abbrev pub with_candidate : Prepared → Vec3 → Vec3 → Option Angles → (Option Joints → Result Joints Refusal) → Result Joints Refusal
with_candidate p target tip (Some a) step =
    unless_stopped (inner_forward p a origin nought)
    (λ pose. step (cond (misses pose.axis target) None (Some (plain_joints p a tip pose.tip))))
with_candidate p target tip None step = step None

unfoldable pub plain_of_raw : Setup → Vec3 → Vec3 → Angles → RawPair → Result Joints Refusal
plain_of_raw s target tip previous raw =
    with_candidate s.chain target tip raw.first
    (λ one. cond (repeats one raw.second) (of_positions s.bounds previous one None)
    (with_candidate s.chain target tip raw.second (of_positions s.bounds previous one)))

unfoldable pub plain_exact : Setup → Vec3 → Vec3 → Angles → Result Joints Refusal
plain_exact s target tip previous = plain_of_raw s target tip previous (orientation_with plain_sp1 s.chain target previous)

-- inside
unfoldable pub plain_placed : Prepared → Vec3 → Angles → Result Joints Refusal
plain_placed p tip a = unless_stopped (inner_forward p a origin nought) (λ pose. finite_position (plain_joints p a tip pose.tip))

unfoldable pub plain_locked : Setup → Bool → Vec3 → Vec3 → Angles → Result Joints Refusal
plain_locked s onSecond target tip previous =
    cond (Ieee.lt (norm (cross (axis_map_of s.chain).wa (axis_map_of s.chain).wb)) shortest) (refused Cause.PoseUnreachable)
    (plain_placed s.chain tip
    (unwind_angles (has_second s.bounds) (plain_locked_angles (axis_map_of s.chain) onSecond s.chain.spindle target previous) previous))

unfoldable pub plain_angle_between : Vec3 → Vec3 → Float
plain_angle_between left right = along (unit_direction left) half_turn_degrees (λ a. along (unit_direction right) half_turn_degrees (λ b. plain_angle a b))

abbrev pub plain_unless_straying : Setup → Vec3 → Result Joints Refusal → Result Joints Refusal → Result Joints Refusal
plain_unless_straying s target pole (Ok j) =
    unless_stopped (inner_forward s.chain (angles_of j) j.xyz nought)
    (λ pose. cond (Ieee.lt (plus s.cone millionth) (plain_angle_between pose.axis target)) pole (within_limits s.bounds j))
plain_unless_straying s target pole (Err r) = Err r

unfoldable pub plain_cone : Setup → SingularFrame → Vec3 → Vec3 → Angles → Result Joints Refusal
plain_cone s f target tip previous =
    plain_unless_straying s target
    (limited s.bounds (plain_locked s f.on_second (nearest_pole target f.direction) tip previous))
    (plain_locked s f.on_second target tip previous)

-- one pose, and the path
abbrev pub plain_by_frame : Setup → Vec3 → Vec3 → Angles → Option SingularFrame → Result Joints Refusal
plain_by_frame s target tip previous (Some f) =
    cond (Ieee.le (plain_clearance target f.direction) s.cone) (locked_or_exact (plain_cone s f target tip previous) (plain_exact s target tip previous)) (plain_exact s target tip previous)
plain_by_frame s target tip previous None = plain_exact s target tip previous

unfoldable pub plain_tip : Setup → Vec3 → Vec3 → Angles → Result Joints Refusal
plain_tip s target tip previous =
    cond (not (all_finite tip)) (refused Cause.NotFinite)
    (cond (not (all_within tip longest)) (refused Cause.TooLarge)
    (with_turns (plain_by_frame s target tip previous s.frame)))

unfoldable pub plain_pose : Setup → ToolPose → Angles → ℕ → Result Joints Refusal
plain_pose s pose previous i = at_pose (along (unit_direction pose.axis) (refused Cause.PoseUnreachable) (λ target. plain_tip s target pose.tip previous)) i

unfoldable pub plain_poses : Setup → Angles → ℕ → List ToolPose → PathAnswer
plain_poses s previous i [] = Along []
plain_poses s previous i (pose ∷ l) = with_pose (plain_pose s pose previous i) (λ j. plain_poses s (angles_of j) (suc i) l)

unfoldable pub plain_set_up : Kinematics → Float → Setup
plain_set_up k cone = record {
  chain = prepared k;
  bounds = bounds_of k;
  frame = of_two (prepared k).second (λ second. loop_frame (prepared k).first.axis second.axis (prepared k).spindle);
  cone = cone;
}

unfoldable pub plain_path : Kinematics → List Float → Option Joints → Float → ℕ → PathAnswer
plain_path k poses start cone room = unless_kept (solve_check k start cone (length poses) room) (plain_poses (plain_set_up k cone) (start_angles start) 0 (poses_in poses))

-- ---- what is known of the set-up of a chain that passed its checks
record SetUp (s : Setup) : Type 0 where
  units : UnitChain s.chain
  -- a singular frame is one of two rotaries
  framed : (f : SingularFrame) → s.frame ≡ Some f → SmallVec 2 f.direction × (SmallVec 1 (axis_map_of s.chain).wa × SmallVec 1 (axis_map_of s.chain).wb)

abbrev is_singular : Option SingularFrame → Bool
is_singular (Some f) = true
is_singular None = false

two_of : (o : Option Spin) (first : Spin) (frame : Spin → Option SingularFrame) (f : SingularFrame) → SecondUnit o → of_two o frame ≡ Some f → SmallVec 1 (unwrap_or o first).axis × (frame (unwrap_or o first) ≡ Some f)
two_of None first frame f S e = absurd (false≢true (ap is_singular e))
two_of (Some s) first frame f S e = (S.small, e)

frames_same : (o : Option Spin) (f g : Spin → Option SingularFrame) → ((s : Spin) → f s ≡ g s) → of_two o f ≡ of_two o g
frames_same None f g h = refl
frames_same (Some s) f g h = h s

module _ (k : Kinematics) (cone : Float) (F : FitAxes k) (passed : chain_check k ≡ Ok tt) where
  units : UnitChain (prepared k)
  units = chain_units k F passed

  framed : (f : SingularFrame) → singular_frame (prepared k) ≡ Some f → SmallVec 2 f.direction × (SmallVec 1 (axis_map_of (prepared k)).wa × SmallVec 1 (axis_map_of (prepared k)).wb)
  unfolding singular_frame
  framed f e =
      let p = prepared k in
      let t = two_of p.second (record p.first { carrier = Head }) (λ second. frame_of_two p.first.axis second.axis p.spindle) f units.second e in
      (subst FrameSmall t.1 (two_small p.first.axis (inner_of p).axis p.spindle units.first.small t.0), axis_units p units.first.small t.0)

  set_up_is : SetUp (set_up k cone)
  unfolding set_up
  set_up_is = record { units = units; framed = framed }

  set_up_plain : set_up k cone ≡ plain_set_up k cone
  unfolding set_up plain_set_up singular_frame
  set_up_plain =
      ap (λ (f : Option SingularFrame). record { chain = prepared k; bounds = bounds_of k; frame = f; cone = cone })
      (frames_same (prepared k).second (λ second. frame_of_two (prepared k).first.axis second.axis (prepared k).spindle) (λ second. loop_frame (prepared k).first.axis second.axis (prepared k).spindle)
      (λ second. frame_loop (prepared k).first.axis second.axis (prepared k).spindle units.first.small units.spindle.small))

-- ---- one pose: a unit target, from angles within 36,000 degrees
through : {A B : Type 0} (f : A → B) (b : Bool) (n y : A) (x : B) → x ≡ f y → cond b (f n) x ≡ f (cond b n y)
through f true n y x e = refl
through f false n y x e = e

module _ (p : Prepared) (C : UnitChain p) (tip : Vec3) where
  candidate_plain : (target : Vec3) (raw : Option Angles) (step : Option Joints → Result Joints Refusal) → RawTurnable raw → with_candidate p target tip raw step ≡ step (candidate p target tip raw)
  unfolding reached_by pose_at
  candidate_plain target (Some a) step A =
      ap (λ (q : Result ToolPose Refusal). unless_stopped q (λ pose. step (cond (misses pose.axis target) None (Some (plain_joints p a tip pose.tip))))) (inner_forward_is p C a A origin nought)
      ∙ ap (λ (j : Joints). step (cond (misses (pose_at p a nought).axis target) None (Some j))) (sym (joints_plain p a A tip (pose_at p a nought).tip))
  candidate_plain target None step A = refl

  placed_plain : (a : Angles) → BothTurnable a → placed_at p tip a ≡ plain_placed p tip a
  unfolding placed_at plain_placed pose_at
  placed_plain a A =
      ap finite_position (joints_plain p a A tip (pose_at p a nought).tip)
      ∙ sym (ap (λ (q : Result ToolPose Refusal). unless_stopped q (λ pose. finite_position (plain_joints p a tip pose.tip))) (inner_forward_is p C a A origin nought))

axis_fits : (p : Prepared) (a : Angles) (xyz : Vec3) → FitVec p.spindle → FitVec (forward_core p (turns_of p a.a0 a.a1) xyz nought).axis
unfolding forward_core
axis_fits p a xyz S = unit_or_fits (reach p (turns_of p a.a0 a.a1) xyz nought).axis p.spindle S

module _ (s : Setup) (G : SetUp s) (target tip : Vec3) (R : SmallVec 1 target) (T' : FitVec target) (previous : Angles) (P : PairUpTo 36000 previous) where
  turns : PoseTurns s previous
  turns = pose_turns s previous P

  abbrev after_first : RawPair → Option Joints → Result Joints Refusal
  after_first raw one =
      cond (repeats one raw.second) (of_positions s.bounds previous one None)
      (with_candidate s.chain target tip raw.second (of_positions s.bounds previous one))

  of_raw_plain : (raw : RawPair) → RawTurnable raw.first → RawTurnable raw.second → plain_of_raw s target tip previous raw ≡ of_raw s target tip previous raw.first raw.second
  unfolding plain_of_raw of_raw second_candidate
  of_raw_plain raw A B =
      let one = candidate s.chain target tip raw.first in
      let two = candidate s.chain target tip raw.second in
      candidate_plain s.chain G.units tip target raw.first (after_first raw) A
      ∙ through (of_positions s.bounds previous one) (repeats one raw.second) None two (with_candidate s.chain target tip raw.second (of_positions s.bounds previous one))
      (candidate_plain s.chain G.units tip target raw.second (of_positions s.bounds previous one) B)

  exact_plain : exact_pose s target tip previous ≡ plain_exact s target tip previous
  unfolding exact_pose plain_exact
  exact_plain =
      sym (of_raw_plain (orientation_angles s.chain target previous) (turns.first target) (turns.second target))
      ∙ ap (plain_of_raw s target tip previous) (orientation_plain s.chain target previous G.units R)

  straying_plain : (pole a : Result Joints Refusal) → Holds (λ j. BothTurnable (angles_of j)) a → unless_straying s target pole a ≡ plain_unless_straying s target pole a
  unfolding strays plain_angle_between
  straying_plain pole (Ok j) A =
      let reached = forward_core s.chain (turns_of s.chain j.a0 j.a1) j.xyz nought in
      ap (λ (x : Float). cond (Ieee.lt (plus s.cone millionth) x) pole (within_limits s.bounds j)) (angle_between reached.axis target (axis_fits s.chain (angles_of j) j.xyz G.units.spindle_fits) T')
      ∙ sym (ap (λ (q : Result ToolPose Refusal). unless_stopped q (λ pose. cond (Ieee.lt (plus s.cone millionth) (plain_angle_between pose.axis target)) pole (within_limits s.bounds j))) (inner_forward_is s.chain G.units (angles_of j) A j.xyz nought))
  straying_plain pole (Err r) A = refl

  module _ (f : SingularFrame) (e : s.frame ≡ Some f) where
    locked_joints_plain : (toward : Vec3) → SmallVec 10 toward → locked_joints s f.on_second toward tip previous ≡ plain_locked s f.on_second toward tip previous
    unfolding locked_joints plain_locked
    locked_joints_plain toward D =
        let g = G.framed f e in
        let m = axis_map_of s.chain in
        ap (λ (a : Result Joints Refusal). cond (Ieee.lt (norm (cross m.wa m.wb)) shortest) (refused Cause.PoseUnreachable) a)
        (placed_plain s.chain G.units tip (unwind_angles (has_second s.bounds) (locked_angles m f.on_second s.chain.spindle toward previous) previous) (turns.locked f.on_second toward)
        ∙ ap (λ (a : Angles). plain_placed s.chain tip (unwind_angles (has_second s.bounds) a previous)) (locked_plain m s.chain.spindle toward g.1.0 g.1.1 G.units.spindle.small D previous turns.lock_x turns.lock_y f.on_second))

    cone_plain : cone_solution s f target tip previous ≡ plain_cone s f target tip previous
    unfolding cone_solution plain_cone
    cone_plain =
        let pole = nearest_pole target f.direction in
        ap (λ (a : Result Joints Refusal). unless_straying s target (limited s.bounds a) (locked_joints s f.on_second target tip previous)) (locked_joints_plain pole (pole_small target f.direction (G.framed f e).0))
        ∙ straying_plain (limited s.bounds (plain_locked s f.on_second pole tip previous)) (locked_joints s f.on_second target tip previous) (turns.tested f.on_second target tip)
        ∙ ap (plain_unless_straying s target (limited s.bounds (plain_locked s f.on_second pole tip previous))) (locked_joints_plain target (vec_raise 1 10 target (lit≤ tt) R))

  frame_plain : (frame : Option SingularFrame) → s.frame ≡ frame → by_frame s target tip previous frame ≡ plain_by_frame s target tip previous frame
  unfolding in_singular_cone
  frame_plain (Some f) e =
      rw (clearance_plain target f.direction (vec_raise 1 2 target (lit≤ tt) R) (G.framed f e).0, cone_plain f e, exact_plain)
  frame_plain None e = exact_plain

  tip_plain : solved_tip s target tip previous ≡ plain_tip s target tip previous
  unfolding solved_tip plain_tip solve_one
  tip_plain =
      ap (λ (a : Result Joints Refusal). cond (not (all_finite tip)) (refused Cause.NotFinite) (cond (not (all_within tip longest)) (refused Cause.TooLarge) (with_turns a))) (frame_plain s.frame refl)

-- ---- the path
abbrev FitAxis : ToolPose → Type 0
FitAxis pose = FitVec pose.axis

module _ (s : Setup) (G : SetUp s) where
  pose_plain : (pose : ToolPose) → FitAxis pose → (previous : Angles) → PairUpTo 36000 previous → (i : ℕ) → pose_answer s pose previous i ≡ plain_pose s pose previous i
  unfolding pose_answer plain_pose solved_pose
  pose_plain pose F previous P i = ap (λ (a : Result Joints Refusal). at_pose a i) (go (unit_direction pose.axis) refl)
    where
      go : (d : Option Vec3) → unit_direction pose.axis ≡ d
          → along d (refused Cause.PoseUnreachable) (λ target. solved_tip s target pose.tip previous) ≡ along d (refused Cause.PoseUnreachable) (λ target. plain_tip s target pose.tip previous)
      go (Some target) e = tip_plain s G target pose.tip (unit_small pose.axis target F e) (unit_fits pose.axis target e) previous P
      go None e = refl

  with_same : (f g : Joints → PathAnswer) (a : Result Joints Refusal) → Holds (λ j. f j ≡ g j) a → with_pose a f ≡ with_pose a g
  with_same f g (Ok j) h = ap (then_on j) h
  with_same f g (Err r) h = refl

  poses_plain : (l : List ToolPose) → Each FitAxis l → (previous : Angles) → PairUpTo 36000 previous → (i : ℕ) → solve_poses s previous i l ≡ plain_poses s previous i l
  unfolding solve_poses plain_poses
  poses_plain [] L previous P i = refl
  poses_plain (pose ∷ l) L previous P i =
      with_same (λ j. solve_poses s (angles_of j) (suc i) l) (λ j. plain_poses s (angles_of j) (suc i) l) (pose_answer s pose previous i)
      (holds_map (λ j. PairUpTo 36000 (angles_of j)) (λ j. solve_poses s (angles_of j) (suc i) l ≡ plain_poses s (angles_of j) (suc i) l) (λ j A. poses_plain l L.1 (angles_of j) A (suc i)) (pose_answer s pose previous i) (pose_angles s pose previous i P))
      ∙ ap (λ (a : Result Joints Refusal). with_pose a (λ j. plain_poses s (angles_of j) (suc i) l)) (pose_plain pose L.0 previous P i)

-- the theorem
pub path_plain : (k : Kinematics) (poses : List Float) (start : Option Joints) (cone : Float) (room : ℕ) → FitAxes k → Each (λ pose. FitVec pose.axis) (poses_in poses) → StartFits start
    → solve_path k poses start cone room ≡ plain_path k poses start cone room
unfolding solve_path plain_path solve_checked
path_plain k poses start cone room F L f = go (solve_check k start cone (length poses) room) refl
  where
    go : (c : Checked) → solve_check k start cone (length poses) room ≡ c
        → unless_kept c (solve_poses (set_up k cone) (start_angles start) 0 (poses_in poses)) ≡ unless_kept c (plain_poses (plain_set_up k cone) (start_angles start) 0 (poses_in poses))
    go (Err r) e = refl
    go (Ok _) e =
        let passed = chain_passed k start cone (length poses) room e in
        poses_plain (set_up k cone) (set_up_is k cone F passed) (poses_in poses) L (start_angles start) (start_turned k start cone (length poses) room e f) 0
        ∙ ap (λ (s : Setup). plain_poses s (start_angles start) 0 (poses_in poses)) (set_up_plain k cone F passed)
