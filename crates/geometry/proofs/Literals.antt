-- The numbers that the papers and the Rust write in decimals, as this crate's definitions have them in bits: each is
-- the double nearest to n / d, which `round` takes exactly, and each line is computed. Assumes nothing.
use mathlib.Core.Path.{◌≡◌, refl}
use mathlib.Core.Bool.{false}
use Prim.Native.Nat.{◌^◌}
use lib.Ieee.{binary64, round, of_bits}
use Rattle.trig.specs.Angle.{pi_num, pi_den}
use Rattle.geometry.specs.Direction.{smallest}
use Rattle.geometry.specs.Slerp.{near_x, flat, pi, half_turn_degrees}

-- 1e-15: a vector whose components are all at most that in size has no direction
pub smallest_is : smallest ≡ round binary64 false 1 (10 ^ 15)
unfolding of_bits round
smallest_is = refl

-- 0.9
pub near_x_is : near_x ≡ round binary64 false 9 10
unfolding of_bits round
near_x_is = refl

-- 1e-12
pub flat_is : flat ≡ round binary64 false 1 (10 ^ 12)
unfolding of_bits round
flat_is = refl

-- 180
pub half_turn_is : half_turn_degrees ≡ round binary64 false 180 1
unfolding of_bits round
half_turn_is = refl

-- the double nearest to document 01's Pi
pub pi_is : pi ≡ round binary64 false pi_num pi_den
unfolding of_bits round pi_num pi_den
pi_is = refl
