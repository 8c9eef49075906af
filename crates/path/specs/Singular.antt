-- The singular direction of a chain of two: one rotary on the spindle within 1e-6 of its cosine, the other within 1e-3
-- of square to it. And the cone about it and about the opposite direction.
use Rattle.std.specs.Prelude.{Bool, true, false, cond, ◌&&◌, Float, None, Option, Some}
use Rattle.std.specs.Float.Ieee as Ieee
use Rattle.std.specs.Float.{binary64}
use Rattle.std.specs.Float.Ieee.{of_bits}
use Rattle.float.specs.Helpers.{nought, one, size_of, clamp_unit, minimum, to_degrees}
use Rattle.trig.specs.Arccosine.{arccosine_of}
use Rattle.geometry.specs.declared.Vec3.{Vec3}
use Rattle.geometry.specs.Vector.{dot, scale, plus, minus, times}
use Rattle.geometry.specs.Slerp.{with, half_turn_degrees}
use Rattle.chain.specs.declared.Spin.{Spin}
use Rattle.chain.specs.declared.Prepared.{Prepared}
use Rattle.inverse.specs.AxisMap.{minus_one}
use Rattle.path.specs.declared.SingularFrame.{SingularFrame}

-- 1e-6 and 1e-3
abbrev pub millionth : Float
millionth = of_bits binary64 0x3eb0_c6f7_a0b5_ed8d

abbrev pub thousandth : Float
thousandth = of_bits binary64 0x3f50_624d_d2f1_a9fc

-- the axis, or its opposite where its part along a direction is below zero
unfoldable pub in_sense : Vec3 → Float → Vec3
in_sense axis along = cond (Ieee.le nought along) axis (scale axis minus_one)

-- ---- the frame
unfoldable pub frame_on : Bool → Vec3 → Vec3 → Float → Float → Option SingularFrame
frame_on onSecond axis spindle best other =
    cond (Ieee.lt best (minus one millionth)) None
    (cond (Ieee.lt thousandth other) None
    (Some (record { on_second = onSecond; direction = in_sense axis (dot axis spindle) })))

-- the rotary that is nearer to the spindle, the first of two that are as near
unfoldable pub frame_of_two : Vec3 → Vec3 → Vec3 → Option SingularFrame
frame_of_two first second spindle =
    cond (Ieee.lt (size_of (dot first spindle)) (size_of (dot second spindle)))
    (frame_on true second spindle (size_of (dot second spindle)) (size_of (dot first spindle)))
    (frame_on false first spindle (size_of (dot first spindle)) (size_of (dot second spindle)))

abbrev pub of_two : Option Spin → (Spin → Option SingularFrame) → Option SingularFrame
of_two None frame = None
of_two (Some second) frame = frame second

unfoldable pub singular_frame : Prepared → Option SingularFrame
singular_frame p = of_two p.second (λ second. frame_of_two p.first.axis second.axis p.spindle)

-- ---- the cone
unfoldable pub pole_clearance_deg : Vec3 → Vec3 → Float
pole_clearance_deg axis direction =
    with (arccosine_of (clamp_unit (dot axis direction))) half_turn_degrees
    (λ near. with (arccosine_of (Ieee.neg (clamp_unit (dot axis direction)))) half_turn_degrees (λ far. to_degrees (minimum near far)))

unfoldable pub in_singular_cone : SingularFrame → Float → Vec3 → Bool
in_singular_cone f cone axis = Ieee.le (pole_clearance_deg axis f.direction) cone

-- 10, 63 / 64 and 127 / 4096
abbrev pub ten_degrees : Float
ten_degrees = of_bits binary64 0x4024_0000_0000_0000

abbrev pub wide : Float
wide = of_bits binary64 0x3fef_8000_0000_0000

abbrev pub least_square : Float
least_square = of_bits binary64 0x3f9f_c000_0000_0000

-- a cosine with which no cone of up to 10 degrees has the axis in it
unfoldable pub well_outside : Float → Float → Bool
well_outside c cone = Ieee.le cone ten_degrees && Ieee.le (size_of c) wide && Ieee.le least_square (times (minus one c) (plus one c))

unfoldable pub nearest_pole : Vec3 → Vec3 → Vec3
nearest_pole target direction = in_sense direction (dot target direction)
