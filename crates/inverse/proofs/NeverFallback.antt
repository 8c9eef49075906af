-- `inverse` and `choose` take no fallback: each is equal, for every chain, pose, tool and hint of doubles, to a
-- definition that has none (`inverse_plain`, `choose_plain`). In that definition
-- - subproblem 1 takes an arctangent that every two numbers have, and the one of the program refuses where one of them
--   is not finite: it never does;
-- - every turn is made of a sine and a cosine, and that of the program is no turn beyond 45,000 degrees: none goes so
--   far;
-- - every pair of angles is given to forward as the Rust calls it, and its refusal ends the call: it answers none, for
--   the angles are finite and the axis that they reach has a direction.
use mathlib.Core.Path.{◌≡◌, refl, sym, ap, ◌∙◌}
use mathlib.Core.Bool.{Bool, cond}
use mathlib.Core.List.{List, [], ◌∷◌}
use lib.Dec.{lit≤}
use lib.Ieee.{Float}
use Rattle.std.specs.Prelude.{Err, Ok, Result, Some}
use Rattle.lists.specs.Each.{Each}
use Rattle.lists.proofs.Each.{each_map}
use Rattle.refusal.specs.declared.Refusal.{Refusal}
use Rattle.refusal.specs.Numbers.{refusal}
use Rattle.refusal.specs.declared.Cause.{Cause}
use Rattle.geometry.specs.declared.Vec3.{Vec3}
use Rattle.geometry.specs.Direction.{unit_direction, along}
use Rattle.geometry.specs.Doubles.{FitVec}
use Rattle.chain.specs.Checked.{Checked}
use Rattle.chain.specs.declared.Joints.{Joints}
use Rattle.chain.specs.declared.Kinematics.{Kinematics}
use Rattle.chain.specs.declared.Prepared.{Prepared}
use Rattle.chain.specs.declared.ToolPose.{ToolPose}
use Rattle.chain.specs.Prepared.{prepared}
use Rattle.chain.proofs.UnitAxes.{FitAxes, UnitChain, chain_units}
use Rattle.inverse.specs.Wraps.{expand_wraps, second_travel}
use Rattle.inverse.specs.Solutions.{origin, sorted}
use Rattle.inverse.specs.Inverse.{pose_at, misses, reached, solutions, Answers, raw_angles, wrapped, outcome, solved, inverse_check, toward, unless_refused, inverse}
use Rattle.inverse.specs.Choose.{hint_of, chosen, choose}
use Rattle.inverse.specs.declared.Angles.{Angles}
use Rattle.inverse.specs.declared.Choice.{Choice}
use Rattle.inverse.specs.UpToTwo.{RawPair}
use Rattle.inverse.proofs.AngleBounds.{PairUpTo, BothTurnable, both_turnable, wrapped_within}
use Rattle.inverse.proofs.AfterChecks.{FitAngles, chain_passed, axis_unit, checked_hint}
use Rattle.inverse.proofs.Arctangents.{plain_sp1, orientation_with, raw_plain}
use Rattle.inverse.proofs.InnerForward.{inner_forward, inner_forward_is, plain_joints, joints_plain}

-- ---- the definition without a fallback
-- the joints of the pairs that reach the target, or the refusal of forward that ends the call
pub data Found : Type 0 where
  Solutions : List Joints → Found
  Stopped : Refusal → Found

abbrev pub unless_stopped : Result ToolPose Refusal → (ToolPose → Found) → Found
unless_stopped (Ok pose) step = step pose
unless_stopped (Err r) step = Stopped r

abbrev pub unless_missed : Bool → Joints → Found → Found
unless_missed missed j (Solutions l) = Solutions (cond missed l (j ∷ l))
unless_missed missed j (Stopped r) = Stopped r

unfoldable pub plain_reached : Prepared → Vec3 → Vec3 → Float → List Angles → Found
plain_reached p target tip tool [] = Solutions []
plain_reached p target tip tool (a ∷ l) =
    unless_stopped (inner_forward p a origin tool)
    (λ pose. unless_missed (misses pose.axis target) (plain_joints p a tip pose.tip) (plain_reached p target tip tool l))

abbrev pub found : RawPair → List Angles → Found → Answers
found raw pairs (Solutions l) = outcome raw pairs (sorted l)
found raw pairs (Stopped r) = Err r

-- of raw angles, their whole turns
abbrev pub plain_wrapped : Kinematics → RawPair → List Angles
plain_wrapped k raw = expand_wraps k.first.limits (second_travel k) raw

abbrev pub plain_of : Kinematics → Vec3 → Vec3 → Float → RawPair → Answers
plain_of k target tip tool raw = found raw (plain_wrapped k raw) (plain_reached (prepared k) target tip tool (plain_wrapped k raw))

unfoldable pub plain_solved : Kinematics → Vec3 → Vec3 → Float → Angles → Answers
plain_solved k target tip tool hint = plain_of k target tip tool (orientation_with plain_sp1 (prepared k) target hint)

unfoldable pub plain_inverse : Kinematics → ToolPose → Float → Angles → Answers
plain_inverse k pose tool hint =
    unless_refused (inverse_check k pose tool hint)
    (along (unit_direction pose.axis) (Err (refusal Cause.ToolAxisZero 0)) (λ target. plain_solved k target pose.tip tool hint))

unfoldable pub plain_choose : Kinematics → ToolPose → Float → Choice → Result Joints Refusal
plain_choose k pose tool choice =
    chosen (plain_inverse k pose tool (hint_of choice)) choice

-- ---- the pairs of a unit chain, each within 45,000 degrees
module _ (p : Prepared) (C : UnitChain p) (target tip : Vec3) (tool : Float) where
  reached_plain : (l : List Angles) → Each BothTurnable l → plain_reached p target tip tool l ≡ Solutions (reached p target tip tool l)
  unfolding plain_reached reached pose_at
  reached_plain [] L = refl
  reached_plain (a ∷ l) L =
      let missed = misses (pose_at p a tool).axis target in
      ap (λ (q : Result ToolPose Refusal). unless_stopped q (λ pose. unless_missed (misses pose.axis target) (plain_joints p a tip pose.tip) (plain_reached p target tip tool l))) (inner_forward_is p C a L.0 origin tool)
      ∙ ap (unless_missed missed (plain_joints p a tip (pose_at p a tool).tip)) (reached_plain l L.1)
      ∙ ap (λ (j : Joints). Solutions (cond missed (reached p target tip tool l) (j ∷ reached p target tip tool l))) (sym (joints_plain p a L.0 tip (pose_at p a tool).tip))

-- ---- the calls
-- every angle that a rotary is turned by is finite and within 45,000 degrees
pub inverse_turns : (k : Kinematics) (pose : ToolPose) (tool : Float) (hint : Angles) → FitAngles hint → inverse_check k pose tool hint ≡ Ok tt → (target : Vec3) → Each BothTurnable (wrapped k target hint)
inverse_turns k pose tool hint fit passed target =
    each_map (PairUpTo 36900) BothTurnable (λ a A. both_turnable 36900 a (lit≤ tt) A) (wrapped k target hint) (wrapped_within k target hint (checked_hint k pose tool hint passed fit))

module _ (k : Kinematics) (pose : ToolPose) (tool : Float) (hint : Angles) (axes : FitAxes k) (axis : FitVec pose.axis) (fit : FitAngles hint) where
  solved_plain : (target : Vec3) → inverse_check k pose tool hint ≡ Ok tt → unit_direction pose.axis ≡ Some target → solved k target pose.tip tool hint ≡ plain_solved k target pose.tip tool hint
  unfolding solved solutions plain_solved
  solved_plain target passed d =
      let C = chain_units k axes (chain_passed k pose tool hint passed) in
      sym (ap (found (raw_angles k target hint) (wrapped k target hint)) (reached_plain (prepared k) C target pose.tip tool (wrapped k target hint) (inverse_turns k pose tool hint fit passed target)))
      ∙ opened
      ∙ ap (plain_of k target pose.tip tool) (raw_plain k axes (chain_passed k pose tool hint passed) pose.axis target axis d hint)
    where
      opened : found (raw_angles k target hint) (wrapped k target hint) (plain_reached (prepared k) target pose.tip tool (wrapped k target hint)) ≡ plain_of k target pose.tip tool (raw_angles k target hint)
      opened = unfold wrapped in refl

  pub inverse_plain : inverse k pose tool hint ≡ plain_inverse k pose tool hint
  unfolding inverse plain_inverse
  inverse_plain = go (inverse_check k pose tool hint) refl
    where
      go : (c : Checked) → inverse_check k pose tool hint ≡ c
          → unless_refused c (toward (unit_direction pose.axis) k pose.tip tool hint) ≡ unless_refused c (along (unit_direction pose.axis) (Err (refusal Cause.ToolAxisZero 0)) (λ target. plain_solved k target pose.tip tool hint))
      go (Err r) passed = refl
      go (Ok _) passed = let d = axis_unit k pose tool hint passed in rw d.1 (solved_plain d.0 passed d.1)

pub choose_plain : (k : Kinematics) (pose : ToolPose) (tool : Float) (choice : Choice) → FitAxes k → FitVec pose.axis → FitAngles (hint_of choice) → choose k pose tool choice ≡ plain_choose k pose tool choice
unfolding choose plain_choose
choose_plain k pose tool choice axes axis fit = ap (λ (a : Answers). chosen a choice) (inverse_plain k pose tool (hint_of choice) axes axis fit)
