-- The orientation equation R(wa, x) R(wb, y) spindle = target for each mix of tables and heads.
-- Two tables: T⁻¹ = R(inner, -a) R(outer, -a). Two heads: H = R(outer, a) R(inner, a). A table and a head: T⁻¹ H =
-- R(table, -a) R(head, a).
use Rattle.std.specs.Prelude.{Bool, true, false, cond, Float}
use Rattle.std.specs.Option.{unwrap_or}
use Rattle.std.specs.Float.Ieee as Ieee
use Rattle.float.specs.Helpers.{one}
use Rattle.geometry.specs.declared.Vec3.{Vec3}
use Rattle.geometry.specs.Vector.{cross, norm}
use Rattle.chain.specs.declared.Carrier.{Carrier}
use Rattle.chain.specs.declared.Carrier.TheVariants.{Table, Head}
use Rattle.chain.specs.declared.Spin.{Spin}
use Rattle.chain.specs.declared.Prepared.{Prepared}
use Rattle.inverse.specs.Subproblem.{shortest, apply_angle}
use Rattle.inverse.specs.declared.SolvedAngle.{SolvedAngle}
use Rattle.inverse.specs.declared.Angles.{Angles}
use Rattle.inverse.specs.declared.AxisMap.{AxisMap}

abbrev pub minus_one : Float
minus_one = Ieee.neg one

abbrev pub two_tables : Vec3 → Vec3 → AxisMap
two_tables outer inner = record { wa = inner; wb = outer; swapped = true; x_sign = minus_one; y_sign = minus_one; inner_is_x = true }

abbrev pub two_heads : Vec3 → Vec3 → AxisMap
two_heads outer inner = record { wa = outer; wb = inner; swapped = false; x_sign = one; y_sign = one; inner_is_x = false }

abbrev pub table_and_head : Vec3 → Vec3 → Bool → AxisMap
table_and_head table head swapped = record { wa = table; wb = head; swapped = swapped; x_sign = minus_one; y_sign = one; inner_is_x = false }

abbrev pub map_of : Carrier → Carrier → Vec3 → Vec3 → AxisMap
map_of Table Table first second = two_tables first second
map_of Table Head first second = table_and_head first second false
map_of Head Table first second = table_and_head second first true
map_of Head Head first second = two_heads first second

-- the other rotary; a chain of one has no such equation, and a head about the first axis stands for it
abbrev pub inner_of : Prepared → Spin
inner_of p = unwrap_or p.second (record p.first { carrier = Head })

unfoldable pub axis_map_of : Prepared → AxisMap
axis_map_of p = map_of p.first.carrier (inner_of p).carrier p.first.axis (inner_of p).axis

abbrev pub parallel_axes : Vec3 → Vec3 → Bool
parallel_axes wa wb = Ieee.lt (norm (cross wa wb)) shortest

-- ---- x and y in the order of the rotaries
unfoldable pub placed : AxisMap → Float → Float → Angles
placed m x y = cond m.swapped (record { a0 = y; a1 = x }) (record { a0 = x; a1 = y })

unfoldable pub hint_x : AxisMap → Angles → Float
hint_x m hint = cond m.swapped hint.a1 hint.a0

unfoldable pub hint_y : AxisMap → Angles → Float
hint_y m hint = cond m.swapped hint.a0 hint.a1

unfoldable pub angles : AxisMap → SolvedAngle → SolvedAngle → Angles → Angles
angles m x y hint = placed m (apply_angle x m.x_sign (hint_x m hint)) (apply_angle y m.y_sign (hint_y m hint))
