-- Angles beside the angles before them.
use Rattle.std.specs.Prelude.{Bool, true, not, cond, ◌&&◌, ◌||◌, ℕ, Float, None, Option, Some, is_some}
use Rattle.std.specs.Float.Ieee as Ieee
use Rattle.std.specs.Float.{binary64}
use Rattle.std.specs.Float.Ieee.{of_bits}
use Rattle.std.specs.Float.Ieee.Scale.{finite}
use Rattle.float.specs.Helpers.{nought, size_of, round_half_away}
use Rattle.root.specs.Root.{root}
use Rattle.geometry.specs.Vector.{plus, minus, times, over}
use Rattle.chain.specs.declared.RotaryLimits.{RotaryLimits}
use Rattle.chain.specs.declared.Joints.{Joints}
use Rattle.chain.specs.Check.{contains}
use Rattle.inverse.specs.Wraps.{one_turn}
use Rattle.inverse.specs.declared.Angles.{Angles}
use Rattle.path.specs.declared.Bound.{Bound}
use Rattle.path.specs.declared.Bounds.{Bounds}

-- ---- whether there is a second rotary
abbrev pub has_second : Bounds → Bool
has_second b = is_some b.second

-- ---- unwinding: by whole turns as near as can be to the angle before, half a turn away from zero
-- where no turn is needed the bits stay
unfoldable pub by_turns : Float → Float → Float
by_turns angle turns = cond (Ieee.eq turns nought) angle (plus angle (times one_turn turns))

unfoldable pub unwind_angle : Float → Float → Float
unwind_angle angle previous =
    cond (not (finite angle)) angle
    (cond (not (finite previous)) angle
    (by_turns angle (round_half_away (over (minus previous angle) one_turn))))

-- the second angle of a chain of one stays
unfoldable pub unwind_angles : Bool → Angles → Angles → Angles
unwind_angles two angles previous =
    record { a0 = unwind_angle angles.a0 previous.a0; a1 = cond two (unwind_angle angles.a1 previous.a1) angles.a1 }

-- ---- the distance, over the rotaries that the chain has
unfoldable pub squared : Float → Float → Float → Float
squared sum angle previous = plus sum (times (minus angle previous) (minus angle previous))

unfoldable pub rotary_square : Bool → Angles → Angles → Float
rotary_square two angles previous =
    cond two (squared (squared nought angles.a0 previous.a0) angles.a1 previous.a1) (squared nought angles.a0 previous.a0)

unfoldable pub rotary_distance : Bool → Angles → Angles → Float
rotary_distance two angles previous = root (rotary_square two angles previous)

-- ---- another branch: a rotary more than 90 degrees away
abbrev pub branch_split : Float
branch_split = of_bits binary64 0x4056_8000_0000_0000

unfoldable pub split : Float → Float → Bool
split left right = Ieee.lt branch_split (size_of (minus left right))

unfoldable pub different_branch : Bool → Joints → Joints → Bool
different_branch two left right = split left.a0 right.a0 || (two && split left.a1 right.a1)

-- ---- the limits; without, an angle is to be finite
abbrev pub permits : Option RotaryLimits → Float → Bool
permits (Some limits) angle = contains limits angle
permits None angle = finite angle

unfoldable pub first_inside : Bounds → Joints → Bool
first_inside b j = permits b.first.limits j.a0

abbrev pub second_permits : Option Bound → Float → Bool
second_permits (Some second) angle = permits second.limits angle
second_permits None angle = true

unfoldable pub second_inside : Bounds → Joints → Bool
second_inside b j = second_permits b.second j.a1

unfoldable pub inside : Bounds → Joints → Bool
inside b j = first_inside b j && second_inside b j

abbrev pub letter_or : Option Bound → ℕ → ℕ
letter_or (Some second) letter = second.letter
letter_or None letter = letter

-- the letter of the first rotary outside
unfoldable pub axis_outside : Bounds → Joints → ℕ
axis_outside b j = cond (first_inside b j) (letter_or b.second b.first.letter) b.first.letter
