-- The number that document 02 writes in decimals for the middles of the links, as this crate's definitions have it in
-- bits: it is the double nearest to n / d, which `round` takes exactly, and the line is computed. Assumes nothing.
use mathlib.Core.Path.{◌≡◌, refl}
use mathlib.Core.Bool.{false}
use lib.Ieee.{binary64, round, of_bits}
use Rattle.meet.specs.Balls.{half}

-- 0.5: the middle of a box, half its diagonal and half a cylinder's length
pub half_is : half ≡ round binary64 false 1 2
unfolding of_bits round
half_is = refl
