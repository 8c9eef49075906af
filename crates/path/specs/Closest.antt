-- The closer of two solutions alone, where that is the answer: one is closer, it is reached, and it is within the
-- limits. This is asked of bounded numbers only, so that the other's position cannot overflow.
use Rattle.std.specs.Prelude.{Bool, true, cond, ◌&&◌, Float, None, Option, Some}
use Rattle.std.specs.Float.Ieee as Ieee
use Rattle.std.specs.Float.{binary64}
use Rattle.std.specs.Float.Ieee.{of_bits}
use Rattle.float.specs.Helpers.{nought}
use Rattle.root.specs.Root.{root}
use Rattle.float.specs.TotalOrder.{before}
use Rattle.geometry.specs.declared.Vec3.{Vec3}
use Rattle.chain.specs.declared.Joints.{Joints}
use Rattle.chain.specs.declared.Spin.{Spin}
use Rattle.chain.specs.declared.Prepared.{Prepared}
use Rattle.chain.specs.Check.{all_within, longest}
use Rattle.chain.specs.Forward.{of_second}
use Rattle.inverse.specs.Wraps.{same_angles}
use Rattle.inverse.specs.declared.Angles.{Angles}
use Rattle.path.specs.Unwinding.{unwind_angles, rotary_distance, inside, has_second}
use Rattle.path.specs.Exact.{reached_by}
use Rattle.path.specs.declared.Bounds.{Bounds}
use Rattle.path.specs.declared.Setup.{Setup}

-- what the checks before the first pose leave: no number of the spindle, and none of a rotary, is past
-- 100,000. No program computes this
abbrev pub bounded_spin : Spin → Bool
bounded_spin s = all_within s.axis longest && all_within s.pivot longest

unfoldable pub bounded : Prepared → Bool
bounded p = bounded_spin p.first && of_second p.second true bounded_spin && all_within p.spindle longest

-- the joints at other angles
abbrev pub turned_to : Joints → Angles → Joints
turned_to j angles = record { xyz = j.xyz; a0 = angles.a0; a1 = angles.a1 }

unfoldable pub kept_at : Bounds → Joints → Angles → Option Joints
kept_at b j angles = cond (inside b (turned_to j angles)) (Some (turned_to j angles)) None

abbrev pub kept_of : Bounds → Angles → Option Joints → Option Joints
kept_of b angles (Some j) = kept_at b j angles
kept_of b angles None = None

unfoldable pub kept : Setup → Vec3 → Vec3 → Angles → Angles → Option Joints
kept s target tip angles unwound = kept_of s.bounds unwound (reached_by s.chain target tip angles)

-- whether the root of x stands before that of y
unfoldable pub root_before : Float → Float → Bool
root_before x y = before (root x) (root y)

-- 8,100 and 10,000, the squares of 90 and 100
abbrev pub near_square : Float
near_square = of_bits binary64 0x40bf_a400_0000_0000

abbrev pub far_square : Float
far_square = of_bits binary64 0x40c3_8800_0000_0000

unfoldable pub far_apart : Float → Float → Bool
far_apart near far = Ieee.le nought near && Ieee.le near near_square && Ieee.le far_square far

-- how far a pair of angles is from the pair before it, unwound
abbrev pub distance : Bool → Angles → Angles → Float
distance two previous angles = rotary_distance two (unwind_angles two angles previous) previous

unfoldable pub closer : Setup → Vec3 → Vec3 → Angles → Angles → Angles → Option Joints
closer s target tip previous one two =
    cond (before (distance (has_second s.bounds) previous two) (distance (has_second s.bounds) previous one)) (kept s target tip two (unwind_angles (has_second s.bounds) two previous))
    (cond (before (distance (has_second s.bounds) previous one) (distance (has_second s.bounds) previous two)) (kept s target tip one (unwind_angles (has_second s.bounds) one previous))
    None)

abbrev pub closest_alone : Setup → Vec3 → Vec3 → Angles → Option Angles → Option Angles → Option Joints
closest_alone s target tip previous (Some one) (Some two) =
    cond (same_angles one two) None (closer s target tip previous one two)
closest_alone s target tip previous (Some one) None = None
closest_alone s target tip previous None two = None
