-- One pose of a path, in the order of its checks: 25 for its axis, 16 and 17 for its tip, then the solution, inside the
-- cone or outside, and 26.
use Rattle.std.specs.Prelude.{Bool, false, not, cond, ◌&&◌, ℕ, eqb, Float, Err, None, Ok, Option, Result, Some, true}
use Rattle.refusal.specs.declared.Refusal.{Refusal}
use Rattle.refusal.specs.declared.Cause.{Cause}
use Rattle.geometry.specs.declared.Vec3.{Vec3}
use Rattle.geometry.specs.Direction.{all_finite, unit_direction, along}
use Rattle.chain.specs.declared.Joints.{Joints}
use Rattle.chain.specs.declared.Kinematics.{Kinematics}
use Rattle.chain.specs.declared.RotaryJoint.{RotaryJoint}
use Rattle.chain.specs.declared.ToolPose.{ToolPose}
use Rattle.chain.specs.Check.{within, all_within, longest, most_turned}
use Rattle.chain.specs.Prepared.{prepared}
use Rattle.inverse.specs.declared.Angles.{Angles}
use Rattle.path.specs.declared.SingularFrame.{SingularFrame}
use Rattle.path.specs.Singular.{singular_frame, in_singular_cone}
use Rattle.path.specs.Locking.{refused, cone_solution}
use Rattle.path.specs.Exact.{exact_pose}
use Rattle.path.specs.declared.Bound.{Bound}
use Rattle.path.specs.declared.Bounds.{Bounds}
use Rattle.path.specs.declared.Setup.{Setup}

-- ---- what is the same for every pose
abbrev pub bound_of : RotaryJoint → Bound
bound_of joint = record { limits = joint.limits; letter = joint.letter }

unfoldable pub bounds_of : Kinematics → Bounds
bounds_of k = record {
  first = bound_of k.first;
  second = cond (eqb k.count 2) (Some (bound_of k.second)) None;
}

unfoldable pub set_up : Kinematics → Float → Setup
set_up k cone = record { chain = prepared k; bounds = bounds_of k; frame = singular_frame (prepared k); cone = cone }

unfoldable pub turned_within : Joints → Bool
turned_within j = within j.a0 most_turned && within j.a1 most_turned

-- ---- the solution of a pose
-- the lock leaves a rotary's limits: 24, and no other refusal. A locked angle past 36,000 gets 26 later (`with_turns`)
abbrev pub is_limit : Cause → Bool
is_limit Cause.LeavesAxis = true
is_limit _ = false

abbrev pub leaves_limits : Result Joints Refusal → Bool
leaves_limits (Ok j) = false
leaves_limits (Err r) = is_limit r.cause

-- the exact rule succeeds: an angle past 36,000 counts as failing
abbrev pub succeeds : Result Joints Refusal → Bool
succeeds (Ok j) = turned_within j
succeeds (Err r) = false

-- inside the cone: the lock's answer, unless it leaves the limits and the exact rule, from the same angles, succeeds
unfoldable pub locked_or_exact : Result Joints Refusal → Result Joints Refusal → Result Joints Refusal
locked_or_exact locked exact = cond (leaves_limits locked && succeeds exact) exact locked

abbrev pub by_frame : Setup → Vec3 → Vec3 → Angles → Option SingularFrame → Result Joints Refusal
by_frame s target tip previous (Some f) =
    cond (in_singular_cone f s.cone target) (locked_or_exact (cone_solution s f target tip previous) (exact_pose s target tip previous)) (exact_pose s target tip previous)
by_frame s target tip previous None = exact_pose s target tip previous

unfoldable pub solve_one : Setup → Vec3 → Vec3 → Angles → Result Joints Refusal
solve_one s target tip previous = by_frame s target tip previous s.frame

abbrev pub with_turns : Result Joints Refusal → Result Joints Refusal
with_turns (Ok j) = cond (turned_within j) (Ok j) (refused Cause.AngleTooLarge)
with_turns (Err r) = Err r

unfoldable pub solved_tip : Setup → Vec3 → Vec3 → Angles → Result Joints Refusal
solved_tip s target tip previous =
    cond (not (all_finite tip)) (refused Cause.NotFinite)
    (cond (not (all_within tip longest)) (refused Cause.TooLarge)
    (with_turns (solve_one s target tip previous)))

unfoldable pub solved_pose : Setup → ToolPose → Angles → Result Joints Refusal
solved_pose s pose previous = along (unit_direction pose.axis) (refused Cause.PoseUnreachable) (λ target. solved_tip s target pose.tip previous)

-- ---- every refusal at a pose carries the pose's index: 16 and 17 too
abbrev pub at_pose : Result Joints Refusal → ℕ → Result Joints Refusal
at_pose (Ok j) index = Ok j
at_pose (Err r) index = Err (record { cause = r.cause; at = index; letter = r.letter })

unfoldable pub pose_answer : Setup → ToolPose → Angles → ℕ → Result Joints Refusal
pose_answer s pose previous index = at_pose (solved_pose s pose previous) index
