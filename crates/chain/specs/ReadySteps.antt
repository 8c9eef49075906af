-- The words in which the inner functions of `forward_from` promise their results, of a chain with records of w bytes.
-- A reader who believes `Ready` and `Forward` needs none of them.
use Rattle.std.specs.Prelude.{Bool, true, not, ◌&&◌, cond, List, ℕ, eqb, Float, Err, None, Ok, Option, Result, Some, is_ok}
use Rattle.std.specs.Float.Ieee as Ieee
use Rattle.float.specs.Helpers.{nought}
use Rattle.geometry.specs.declared.Vec3.{Vec3}
use Rattle.geometry.specs.Direction.{unit_direction, along}
use Rattle.refusal.specs.declared.Refusal.{Refusal}
use Rattle.refusal.specs.Numbers.{refusal}
use Rattle.refusal.specs.declared.Cause.{Cause}
use Rattle.chain.specs.declared.ToolPose.{ToolPose}
use Rattle.chain.specs.declared.Kinematics.{Kinematics}
use Rattle.chain.specs.Checked.{Checked}
use Rattle.chain.specs.declared.Spin.{Spin}
use Rattle.chain.specs.declared.RotaryJoint.{RotaryJoint}
use Rattle.chain.specs.declared.Joints.{Joints}
use Rattle.chain.specs.declared.Prepared.{Prepared}
use Rattle.chain.specs.Bytes.{byte_at, vector_at}
use Rattle.chain.specs.Check.{known_letter, other_letter, travel_good, rotary_within, within, longest, joints_within}
use Rattle.chain.specs.ChainBytes.{carrier_field, axis_field, pivot_field, second_field, spindle_field, zeros, rotary_fields, rotary_at, carrier_of}
use Rattle.chain.specs.Forward.{forward_check, posed, reach, turns_of}

-- ---- what must be, the directions aside
unfoldable pub rotary_good : RotaryJoint → Option ℕ → Bool
rotary_good j earlier = known_letter j.letter && other_letter j.letter earlier && travel_good j.limits && rotary_within j

unfoldable pub record_good : ℕ → List ℕ → ℕ → Option ℕ → Bool
record_good w bytes at earlier = is_ok (rotary_fields bytes at) && rotary_good (rotary_at w bytes at) earlier

unfoldable pub first_good : ℕ → List ℕ → Bool
first_good w bytes = is_ok (zeros bytes 1 7) && record_good w bytes 8 None

unfoldable pub second_good : ℕ → List ℕ → ℕ → Bool
second_good w bytes count = cond (eqb count 2) (record_good w bytes (second_field w) (Some (byte_at bytes 8))) true

-- ---- what it is
-- a rotary, with its unit axis
unfoldable pub spin_at : List ℕ → ℕ → Vec3 → Spin
spin_at bytes at axis = record { carrier = carrier_of (byte_at bytes (carrier_field at)); axis = axis; pivot = vector_at bytes (pivot_field at) }

-- the second one: `Some None` where there is none, `None` where its axis has no direction
unfoldable pub directed_second : ℕ → List ℕ → ℕ → Option (Option Spin)
directed_second w bytes count =
    cond (eqb count 2) (along (unit_direction (vector_at bytes (axis_field (second_field w)))) None (λ axis. Some (Some (spin_at bytes (second_field w) axis)))) (Some None)

abbrev pub with_second : Option (Option Spin) → (Option Spin → Option Prepared) → Option Prepared
with_second (Some second) step = step second
with_second None step = None

unfoldable pub ready_counted : ℕ → List ℕ → ℕ → Option Prepared
ready_counted w bytes count =
    cond (not (first_good w bytes)) None
    (cond (not (second_good w bytes count)) None
    (along (unit_direction (vector_at bytes 16)) None
    (λ axis.
    with_second (directed_second w bytes count)
    (λ second.
    along (unit_direction (vector_at bytes (spindle_field w count))) None
    (λ spindle.
    Some (record { first = spin_at bytes 8 axis; second = second; spindle = spindle }))))))

-- ---- forward: its numbers, and its refusal where there is one
unfoldable pub numbers_good : Joints → Float → Bool
numbers_good j tool = not (Ieee.lt tool nought) && within tool longest && joints_within j

abbrev pub refused_by : Checked → Result ToolPose Refusal
refused_by (Ok _) = Err (refusal Cause.SpindleZero 0)
refused_by (Err r) = Err r

abbrev pub refused_read : Result Kinematics Refusal → Joints → Float → Result ToolPose Refusal
refused_read (Err r) j tool = Err r
refused_read (Ok k) j tool = refused_by (forward_check k j tool)

-- what forward makes of a chain from its bytes: what is reached, where nothing refuses, and its answer of it
abbrev pub reached_by : Option Prepared → Joints → Float → Option ToolPose
reached_by (Some p) j tool = Some (reach p (turns_of p j.a0 j.a1) j.xyz tool)
reached_by None j tool = None

unfoldable pub reached_counted : ℕ → List ℕ → ℕ → Joints → Float → Option ToolPose
reached_counted w bytes count j tool = reached_by (ready_counted w bytes count) j tool

abbrev pub told : Option ToolPose → Result Kinematics Refusal → Joints → Float → Result ToolPose Refusal
told (Some reached) read j tool = posed reached
told None read j tool = refused_read read j tool
