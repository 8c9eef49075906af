-- The numbers that the papers and the Rust write in decimals, as this crate's definitions have them in bits: each is
-- the double nearest to n / d, which `round` takes exactly, and each line is computed. Assumes nothing.
use mathlib.Core.Path.{◌≡◌, refl}
use mathlib.Core.Bool.{false}
use Prim.Native.Nat.{◌^◌}
use lib.Ieee.{binary64, round, of_bits}
use Rattle.inverse.specs.Subproblem.{gap_tolerance, shortest}
use Rattle.inverse.specs.Wraps.{half_turn, one_turn, two_turns}

-- 1e-7: the gap that subproblem 1 refuses
pub gap_tolerance_is : gap_tolerance ≡ round binary64 false 1 (10 ^ 7)
unfolding of_bits round
gap_tolerance_is = refl

-- 1e-9: a part that leaves the angle free, pairs of angles that are one, the sign of a first angle, parallel rotaries
pub shortest_is : shortest ≡ round binary64 false 1 (10 ^ 9)
unfolding of_bits round
shortest_is = refl

-- 180, 360 and 720
pub half_turn_is : half_turn ≡ round binary64 false 180 1
unfolding of_bits round
half_turn_is = refl

pub one_turn_is : one_turn ≡ round binary64 false 360 1
unfolding of_bits round
one_turn_is = refl

pub two_turns_is : two_turns ≡ round binary64 false 720 1
unfolding of_bits round
two_turns_is = refl
