-- Inside the cone: one rotary keeps its angle, the other brings the tool axis as near as it can. The position comes
-- from the unwound angles.
use Rattle.std.specs.Prelude.{Bool, not, cond, Float, Err, None, Ok, Option, Result, Some}
use Rattle.std.specs.Float.Ieee as Ieee
use Rattle.float.specs.Helpers.{nought}
use Rattle.refusal.specs.declared.Refusal.{Refusal}
use Rattle.refusal.specs.Numbers.{refusal, leaves_axis_of}
use Rattle.refusal.specs.declared.Cause.{Cause}
use Rattle.geometry.specs.declared.Vec3.{Vec3}
use Rattle.geometry.specs.Vector.{add, sub, scale, dot, cross, norm, plus, times, over}
use Rattle.geometry.specs.Direction.{all_finite}
use Rattle.geometry.specs.Turn.{turn_of, rotate_vector}
use Rattle.geometry.specs.Slerp.{angle_between_deg}
use Rattle.chain.specs.declared.Joints.{Joints}
use Rattle.chain.specs.declared.Prepared.{Prepared}
use Rattle.chain.specs.Forward.{forward_core, turns_of}
use Rattle.inverse.specs.declared.SolvedAngle.{SolvedAngle}
use Rattle.inverse.specs.Subproblem.{shortest, sp1}
use Rattle.inverse.specs.AxisMap.{axis_map_of, placed, hint_x, hint_y}
use Rattle.inverse.specs.Inverse.{pose_at, joints_at}
use Rattle.inverse.specs.declared.Angles.{Angles}
use Rattle.inverse.specs.declared.AxisMap.{AxisMap}
use Rattle.inverse.specs.declared.SolvedAngle.TheVariants.{Fixed, Free}
use Rattle.path.specs.Singular.{millionth, nearest_pole}
use Rattle.path.specs.Unwinding.{unwind_angles, inside, axis_outside, has_second}
use Rattle.path.specs.declared.Bounds.{Bounds}
use Rattle.path.specs.declared.Setup.{Setup}
use Rattle.path.specs.declared.SingularFrame.{SingularFrame}

-- ---- refusals of a pose; which pose, `at_pose` says
abbrev pub refused : Cause → Result Joints Refusal
refused cause = Err (refusal cause 0)

unfoldable pub within_limits : Bounds → Joints → Result Joints Refusal
within_limits b j = cond (inside b j) (Ok j) (Err (leaves_axis_of 0 (axis_outside b j)))

-- ---- the point nearest to a query on the circle of a point about a unit axis
unfoldable pub square_part : Vec3 → Vec3 → Vec3
square_part v w = sub v (scale w (dot w v))

unfoldable pub on_circle : Vec3 → Float → Float → Vec3 → Option Vec3
on_circle axis along radius qPerp =
    cond (Ieee.lt (norm qPerp) shortest) None
    (Some (add (scale axis along) (scale qPerp (over radius (norm qPerp)))))

unfoldable pub closest_on_circle : Vec3 → Vec3 → Vec3 → Option Vec3
closest_on_circle axis point query =
    cond (Ieee.lt (norm (square_part point axis)) shortest) None
    (on_circle axis (dot axis point) (norm (square_part point axis)) (square_part query axis))

-- ---- the angle that takes a point there
abbrev pub fixed_only : Option SolvedAngle → Option Float
fixed_only (Some (Fixed angle)) = Some angle
fixed_only (Some Free) = None
fixed_only None = None

abbrev pub toward : Vec3 → Vec3 → Option Vec3 → Option Float
toward axis point (Some c) = fixed_only (sp1 axis point c)
toward axis point None = None

unfoldable pub fit : Vec3 → Vec3 → Vec3 → Option Float
fit axis point query = toward axis point (closest_on_circle axis point query)

-- R(wa, x) R(wb, y) spindle nearest to the target: y with x locked, x with y locked
unfoldable pub fit_second : AxisMap → Vec3 → Vec3 → Float → Option Float
fit_second m spindle target x = fit m.wb spindle (rotate_vector m.wa target (turn_of (Ieee.neg x)))

unfoldable pub fit_first : AxisMap → Vec3 → Vec3 → Float → Option Float
fit_first m spindle target y = fit m.wa (rotate_vector m.wb spindle (turn_of y)) target

abbrev pub fitted : Option Float → Float → Float
fitted (Some angle) kept = angle
fitted None kept = kept

-- ---- the locked angles
unfoldable pub locks_x : AxisMap → Bool → Bool
locks_x m onSecond = cond m.swapped onSecond (not onSecond)

unfoldable pub locked_x : AxisMap → Vec3 → Vec3 → Angles → Angles
locked_x m spindle target previous =
    placed m (hint_x m previous)
    (times m.y_sign (fitted (fit_second m spindle target (times m.x_sign (hint_x m previous))) (times m.y_sign (hint_y m previous))))

unfoldable pub locked_y : AxisMap → Vec3 → Vec3 → Angles → Angles
locked_y m spindle target previous =
    placed m
    (times m.x_sign (fitted (fit_first m spindle target (times m.y_sign (hint_y m previous))) (times m.x_sign (hint_x m previous))))
    (hint_y m previous)

unfoldable pub locked_angles : AxisMap → Bool → Vec3 → Vec3 → Angles → Angles
locked_angles m onSecond spindle target previous =
    cond (locks_x m onSecond) (locked_x m spindle target previous) (locked_y m spindle target previous)

-- ---- the joints
unfoldable pub finite_position : Joints → Result Joints Refusal
finite_position j = cond (all_finite j.xyz) (Ok j) (refused Cause.NotFinite)

unfoldable pub placed_at : Prepared → Vec3 → Angles → Result Joints Refusal
placed_at p tip angles = finite_position (joints_at p angles tip (pose_at p angles nought).tip)

unfoldable pub locked_joints : Setup → Bool → Vec3 → Vec3 → Angles → Result Joints Refusal
locked_joints s onSecond target tip previous =
    cond (Ieee.lt (norm (cross (axis_map_of s.chain).wa (axis_map_of s.chain).wb)) shortest) (refused Cause.PoseUnreachable)
    (placed_at s.chain tip
    (unwind_angles (has_second s.bounds) (locked_angles (axis_map_of s.chain) onSecond s.chain.spindle target previous) previous))

-- ---- the cone's solution: where the axis strays, once more toward the nearest pole, and not tested again
unfoldable pub strays : Setup → Vec3 → Joints → Bool
strays s target j =
    Ieee.lt (plus s.cone millionth)
    (angle_between_deg (forward_core s.chain (turns_of s.chain j.a0 j.a1) j.xyz nought).axis target)

abbrev pub limited : Bounds → Result Joints Refusal → Result Joints Refusal
limited b (Ok j) = within_limits b j
limited b (Err r) = Err r

abbrev pub unless_straying : Setup → Vec3 → Result Joints Refusal → Result Joints Refusal → Result Joints Refusal
unless_straying s target pole (Ok j) = cond (strays s target j) pole (within_limits s.bounds j)
unless_straying s target pole (Err r) = Err r

unfoldable pub cone_solution : Setup → SingularFrame → Vec3 → Vec3 → Angles → Result Joints Refusal
cone_solution s f target tip previous =
    unless_straying s target
    (limited s.bounds (locked_joints s f.on_second (nearest_pole target f.direction) tip previous))
    (locked_joints s f.on_second target tip previous)
