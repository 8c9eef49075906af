-- The positioning profile of a Hirth table. Each angle of the solution that `choose` gives goes to its nearest tooth;
-- the position is worked out again by `inverse`'s steps, with the turns of the teeth; the limits are tested again, and
-- the reached axis may differ from the wanted one by at most the tolerance. The order: 19, then all of `choose`, then
-- 31.
use Rattle.std.specs.Prelude.{Bool, cond, Float, Err, Ok, Result}
use Rattle.std.specs.Float.Ieee as Ieee
use Rattle.geometry.specs.declared.Turn.{Turn}
use Rattle.geometry.specs.declared.Vec3.{Vec3}
use Rattle.geometry.specs.Slerp.{angle_between_deg}
use Rattle.refusal.specs.declared.Refusal.{Refusal}
use Rattle.refusal.specs.Numbers.{refusal}
use Rattle.refusal.specs.declared.Cause.{Cause}
use Rattle.chain.specs.declared.Joints.{Joints}
use Rattle.chain.specs.declared.Kinematics.{Kinematics}
use Rattle.chain.specs.declared.Carrier.{Carrier}
use Rattle.chain.specs.declared.Prepared.{Prepared}
use Rattle.chain.specs.declared.ToolPose.{ToolPose}
use Rattle.chain.specs.declared.Turns.{Turns}
use Rattle.chain.specs.Forward.{forward_angle, turns_by}
use Rattle.chain.specs.Prepared.{prepared}
use Rattle.inverse.specs.declared.Angles.{Angles}
use Rattle.inverse.specs.declared.Choice.{Choice}
use Rattle.inverse.specs.Choose.{choose}
use Rattle.inverse.specs.Inverse.{pose_from, joints_from}
use Rattle.path.specs.Unwinding.{inside}
use Rattle.path.specs.Posing.{bounds_of}
use Rattle.divide.specs.Checking.{tolerance_good}
use Rattle.hirth.specs.Snapping.{snapped_angles}
use Rattle.hirth.specs.Turning.{tooth_turn}

-- ---- the turns of the teeth, as forward turns its rotaries: a head by its angle, a table by the negated angle
abbrev pub tooth_swing : Carrier → Float → Turn
tooth_swing c angle = tooth_turn (forward_angle c angle)

unfoldable pub tooth_turns : Prepared → Angles → Turns
tooth_turns p angles = turns_by tooth_turn p angles.a0 angles.a1

-- ---- a chosen solution on its teeth: the pose that it reaches from position zero, and its joints
unfoldable pub tooth_pose : Kinematics → Float → Joints → ToolPose
tooth_pose k tool j = pose_from (prepared k) (tooth_turns (prepared k) (snapped_angles j)) tool

unfoldable pub tooth_joints : Kinematics → ToolPose → Float → Joints → Joints
tooth_joints k pose tool j =
    joints_from (prepared k) (tooth_turns (prepared k) (snapped_angles j)) (snapped_angles j) pose.tip (tooth_pose k tool j).tip

-- ---- what is tested of it
unfoldable pub close : Vec3 → Vec3 → Float → Bool
close axis wanted tol = Ieee.le (angle_between_deg axis wanted) tol

-- every rotary within its limits on its teeth
abbrev pub holds_limits : Kinematics → ToolPose → Float → Joints → Bool
holds_limits k pose tool j = inside (bounds_of k) (tooth_joints k pose tool j)

-- the axis that is reached, near enough to the wanted one as it was given
abbrev pub holds_tolerance : Kinematics → ToolPose → Float → Float → Joints → Bool
holds_tolerance k pose tool tol j = close (tooth_pose k tool j).axis pose.axis tol

-- ---- the profile
abbrev pub missed : Result Joints Refusal
missed = Err (refusal Cause.ToothMisses 0)

unfoldable pub limited : Kinematics → Joints → Result Joints Refusal
limited k j = cond (inside (bounds_of k) j) (Ok j) missed

unfoldable pub held : Kinematics → Vec3 → Float → Vec3 → Joints → Result Joints Refusal
held k wanted tol axis j = cond (close axis wanted tol) (limited k j) missed

unfoldable pub toothed : Kinematics → ToolPose → Float → Float → Joints → Result Joints Refusal
toothed k pose tool tol j = held k pose.axis tol (tooth_pose k tool j).axis (tooth_joints k pose tool j)

abbrev pub after_choose : Kinematics → ToolPose → Float → Float → Result Joints Refusal → Result Joints Refusal
after_choose k pose tool tol (Ok j) = toothed k pose tool tol j
after_choose k pose tool tol (Err r) = Err r

unfoldable pub choose_tooth : Kinematics → ToolPose → Float → Choice → Float → Result Joints Refusal
choose_tooth k pose tool choice tol =
    cond (tolerance_good tol) (after_choose k pose tool tol (choose k pose tool choice)) (Err (refusal Cause.Tolerance 0))
