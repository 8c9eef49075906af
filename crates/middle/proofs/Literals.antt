-- The numbers that the papers and the Rust write in decimals, as this crate's definitions have them in bits: each is
-- the double nearest to n / d, which `round` takes exactly, and each line is computed. Assumes nothing.
use mathlib.Core.Path.{◌≡◌, refl}
use mathlib.Core.Bool.{false}
use Prim.Native.Nat.{◌^◌}
use lib.Ieee.{binary64, round, of_bits}
use Rattle.middle.specs.Testing.{least, half, quarter, three_quarters}

-- 1e-12: a midpoint that is as near is not inserted
pub least_is : least ≡ round binary64 false 1 (10 ^ 12)
unfolding of_bits round
least_is = refl

-- 0.5: the middle
pub half_is : half ≡ round binary64 false 1 2
unfolding of_bits round
half_is = refl

-- 0.25 and 0.75: the quarters
pub quarter_is : quarter ≡ round binary64 false 1 4
unfolding of_bits round
quarter_is = refl

pub three_quarters_is : three_quarters ≡ round binary64 false 3 4
unfolding of_bits round
three_quarters_is = refl
