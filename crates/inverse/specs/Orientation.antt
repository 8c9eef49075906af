-- The rotary angles that put the spindle on a target axis, before whole turns and limits: none, one or two. A free
-- angle takes the hint.
use Rattle.std.specs.Prelude.{cond, Float, None, Option, Some}
use Rattle.std.specs.Float.Ieee as Ieee
use Rattle.float.specs.Helpers.{nought, one}
use Rattle.geometry.specs.declared.Vec3.{Vec3}
use Rattle.geometry.specs.Vector.{dot, minus, times}
use Rattle.chain.specs.declared.Carrier.{Carrier}
use Rattle.chain.specs.declared.Carrier.TheVariants.{Table, Head}
use Rattle.chain.specs.declared.Spin.{Spin}
use Rattle.chain.specs.declared.Prepared.{Prepared}
use Rattle.inverse.specs.declared.SolvedAngle.{SolvedAngle}
use Rattle.inverse.specs.Subproblem.{sp1, sp2, apply_angle}
use Rattle.inverse.specs.AxisMap.{minus_one, axis_map_of, parallel_axes, placed, hint_x, hint_y, angles}
use Rattle.inverse.specs.declared.SolvedAngle.TheVariants.{Fixed, Free}
use Rattle.inverse.specs.UpToTwo.{SolvedPairs, RawPair, first_only}
use Rattle.inverse.specs.declared.Angles.{Angles}
use Rattle.inverse.specs.declared.AxisMap.{AxisMap}

-- ---- one rotary
abbrev pub sign_of : Carrier → Float
sign_of Table = minus_one
sign_of Head = one

abbrev pub one_angle : Option SolvedAngle → Float → Angles → Option Angles
one_angle (Some solved) sign hint = Some (record { a0 = apply_angle solved sign hint.a0; a1 = nought })
one_angle None sign hint = None

unfoldable pub one_joint_angles : Spin → Vec3 → Vec3 → Angles → Option Angles
one_joint_angles s spindle target hint = one_angle (sp1 s.axis spindle target) (sign_of s.carrier) hint

-- ---- two parallel rotaries
unfoldable pub sigma_of : AxisMap → Float
sigma_of m = cond (Ieee.le nought (dot m.wa m.wb)) one minus_one

unfoldable pub shared_turn : AxisMap → Float → Float → Angles → Angles
shared_turn m total sigma hint =
    cond m.inner_is_x
    (placed m (hint_x m hint) (times m.y_sign (times sigma (minus total (times m.x_sign (hint_x m hint))))))
    (placed m (times m.x_sign (minus total (times sigma (times m.y_sign (hint_y m hint))))) (hint_y m hint))

abbrev pub by_total : AxisMap → Angles → Option SolvedAngle → Option Angles
by_total m hint (Some Free) = Some hint
by_total m hint (Some (Fixed turn)) = Some (shared_turn m turn (sigma_of m) hint)
by_total m hint None = None

unfoldable pub parallel_angles : AxisMap → Vec3 → Vec3 → Angles → Option Angles
parallel_angles m spindle target hint = by_total m hint (sp1 m.wa spindle target)

-- ---- two rotaries
abbrev pub raw_of : AxisMap → Option (SolvedAngle × SolvedAngle) → Angles → Option Angles
raw_of m (Some (x, y)) hint = Some (angles m x y hint)
raw_of m None hint = None

abbrev pub raw_pair : AxisMap → SolvedPairs → Angles → RawPair
raw_pair m pairs hint = record { first = raw_of m pairs.first hint; second = raw_of m pairs.second hint }

unfoldable pub two_joint_angles : AxisMap → Vec3 → Vec3 → Angles → RawPair
two_joint_angles m spindle target hint =
    cond (parallel_axes m.wa m.wb) (first_only (parallel_angles m spindle target hint))
    (raw_pair m (sp2 m.wa m.wb spindle target) hint)

abbrev pub counted_raw : Option Spin → RawPair → RawPair → RawPair
counted_raw None single both = single
counted_raw (Some _) single both = both

unfoldable pub orientation_angles : Prepared → Vec3 → Angles → RawPair
orientation_angles p target hint =
    counted_raw p.second (first_only (one_joint_angles p.first p.spindle target hint)) (two_joint_angles (axis_map_of p) p.spindle target hint)
