-- The numbers that the papers and the Rust write in decimals, as this crate's definitions have them in bits: each is
-- the double nearest to n / d, which `round` takes exactly, and each line is computed. Assumes nothing.
use mathlib.Core.Path.{◌≡◌, refl}
use mathlib.Core.Bool.{false}
use Prim.Native.Nat.{◌^◌}
use lib.Ieee.{binary64, round, of_bits}
use Rattle.path.specs.Singular.{millionth, thousandth}
use Rattle.path.specs.Solving.{widest_cone}
use Rattle.path.specs.Unwinding.{branch_split}

-- 1e-6: a rotary on the spindle, and what a locked axis may stray beyond the cone
pub millionth_is : millionth ≡ round binary64 false 1 (10 ^ 6)
unfolding of_bits round
millionth_is = refl

-- 1e-3: a rotary that is square to the spindle
pub thousandth_is : thousandth ≡ round binary64 false 1 (10 ^ 3)
unfolding of_bits round
thousandth_is = refl

-- a cone of up to 10 degrees
pub widest_cone_is : widest_cone ≡ round binary64 false 10 1
unfolding of_bits round
widest_cone_is = refl

-- more than 90 degrees away is another branch
pub branch_split_is : branch_split ≡ round binary64 false 90 1
unfolding of_bits round
branch_split_is = refl
