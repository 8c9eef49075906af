-- The arccosine as document 01 has it: the arctangent of the root of (1 - c) (1 + c), and c, in floats; and what it
-- promises. Definitions only.
use Rattle.std.specs.Prelude.{◌≡◌, Bool, true, false, cond, T, Float, None, Option, Some}
use Rattle.std.specs.Float.{binary64}
use Rattle.std.specs.Float.Ieee.{add, sub, mul, neg, le}
use Rattle.root.specs.Root.{root}
use Rattle.trig.specs.Kernel.{plus_zero, one}
use Rattle.float.specs.Helpers.{negative}
use Rattle.trig.specs.Direction.{pi, Direction}
use Rattle.trig.specs.Arctangent.{arctangent_of}

-- the root of (1 - c) (1 + c): the sine of the angle whose cosine is c
unfoldable pub sine_of_cosine : Float → Float
sine_of_cosine c = root (mul binary64 (sub binary64 one c) (add binary64 one c))

-- c is from -1 to 1: false of a NaN
unfoldable pub cosine_range : Float → Bool
cosine_range c = cond (le c one) (le (neg one) c) false

unfoldable pub arccosine_of : Float → Option Float
unfolding cosine_range
arccosine_of c = cond (cosine_range c) (arctangent_of (sine_of_cosine c) c) None

-- ---- what holds of it
-- from +0 to the double nearest to pi, never -0, and the direction of (c, the root)
pub record ArccosineValue (c r : Float) : Type 0 where
  pub least : T (le plus_zero r)
  pub greatest : T (le r pi)
  pub positive : negative r ≡ false
  pub direction : Direction (sine_of_cosine c) c r

-- out of range exactly where c is not from -1 to 1
abbrev pub ArccosineAnswer : Float → Option Float → Type 0
ArccosineAnswer c (Some r) = (cosine_range c ≡ true) × ArccosineValue c r
ArccosineAnswer c None = cosine_range c ≡ false
