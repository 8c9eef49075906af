-- The numbers that the papers and the Rust write in decimals, as this crate's definitions have them in bits: each is
-- the double nearest to n / d, which `round` takes exactly, and each line is computed. Assumes nothing.
use Rattle.std.proofs.Common.{◌≡◌, false, refl}
use lib.Ieee.{binary64, round, of_bits}
use Rattle.trig.specs.Angle.{pi_num, pi_den}
use Rattle.trig.specs.Waves.{most}
use Rattle.trig.specs.Degrees.{widest}
use Rattle.trig.specs.Direction.{pi}

-- radians up to 800
pub most_is : most ≡ round binary64 false 800 1
unfolding of_bits round
most_is = refl

-- degrees up to 45,000
pub widest_is : widest ≡ round binary64 false 45000 1
unfolding of_bits round
widest_is = refl

-- the double nearest to document 01's Pi
pub pi_is_nearest : pi ≡ round binary64 false pi_num pi_den
unfolding round pi_num pi_den
pi_is_nearest = refl
