-- A chain with its axes normalised.
use Rattle.std.specs.Prelude.{cond, eqb, None, Option, Some}
use Rattle.geometry.specs.declared.Vec3.{Vec3}
use Rattle.geometry.specs.Direction.{unit_or}
use Rattle.chain.specs.declared.RotaryJoint.{RotaryJoint}
use Rattle.chain.specs.declared.Kinematics.{Kinematics}
use Rattle.chain.specs.declared.Spin.{Spin}
use Rattle.chain.specs.declared.Prepared.{Prepared}

unfoldable pub unit_axis : Vec3 → Vec3
unit_axis axis = unit_or axis axis

unfoldable pub spin_of : RotaryJoint → Spin
spin_of j = record { carrier = j.carrier; axis = unit_axis j.axis; pivot = j.pivot }

unfoldable pub second_spin : Kinematics → Option Spin
second_spin k = cond (eqb k.count 2) (Some (spin_of k.second)) None

unfoldable pub prepared : Kinematics → Prepared
prepared k = record { first = spin_of k.first; second = second_spin k; spindle = unit_axis k.spindle_axis }
