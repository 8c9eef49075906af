-- The numbers that the papers and the Rust write in decimals, as this crate's definitions have them in bits: each is
-- the double nearest to n / d, which `round` takes exactly, and each line is computed. Assumes nothing.
use mathlib.Core.Path.{◌≡◌, refl}
use mathlib.Core.Bool.{false}
use lib.Ieee.{binary64, round, of_bits}
use Rattle.chain.specs.Check.{longest, farthest, most_turned}

-- tips, pivots and tool length: 100,000 mm
pub longest_is : longest ≡ round binary64 false 100000 1
unfolding of_bits round
longest_is = refl

-- positions: 10,000,000 mm
pub farthest_is : farthest ≡ round binary64 false 10000000 1
unfolding of_bits round
farthest_is = refl

-- angles: 36,000 degrees
pub most_turned_is : most_turned ≡ round binary64 false 36000 1
unfolding of_bits round
most_turned_is = refl
