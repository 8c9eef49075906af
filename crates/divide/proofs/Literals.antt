-- The numbers that the papers and the Rust write in decimals, as this crate's definitions have them in bits: each is
-- the double nearest to n / d, which `round` takes exactly, and each line is computed. Assumes nothing.
use mathlib.Core.Path.{◌≡◌, refl}
use mathlib.Core.Bool.{false}
use Prim.Native.Nat.{◌^◌}
use lib.Ieee.{binary64, round, of_bits}

-- of the worked examples (specs/Examples.antt): 10.000000000000002 and 90.00000000000001
pub above_ten_is : of_bits binary64 0x4024_0000_0000_0001 ≡ round binary64 false 10000000000000002 (10 ^ 15)
unfolding of_bits round
above_ten_is = refl

pub above_ninety_is : of_bits binary64 0x4056_8000_0000_0001 ≡ round binary64 false 9000000000000001 (10 ^ 14)
unfolding of_bits round
above_ninety_is = refl
