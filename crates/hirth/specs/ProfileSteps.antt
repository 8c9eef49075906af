-- How the program tests the reached axis: by the square of the sine and by the cosine where they show already that the
-- angle is small enough, with no root and no arctangent. Definitions only; that `close` says the same then is
-- `surely_close` (proofs/SmallAngle.antt).
use Rattle.std.specs.Prelude.{Bool, ◌&&◌, from_bits, Float}
use Rattle.std.specs.Float.{binary64}
use Rattle.std.specs.Float.Ieee.{mul, le}
use Rattle.float.specs.Helpers.{nought, one}

-- 15/16; 2 ^ -10 and 64 degrees; and 5476, the square of 74
abbrev pub nearly_one : Float
nearly_one = from_bits binary64 0x3fee_0000_0000_0000

abbrev pub least_degrees : Float
least_degrees = from_bits binary64 0x3f50_0000_0000_0000

abbrev pub most_degrees : Float
most_degrees = from_bits binary64 0x4050_0000_0000_0000

abbrev pub square_degrees : Float
square_degrees = from_bits binary64 0x40b5_6400_0000_0000

-- of the square of the sine: with a cosine from 15/16 up the angle is at most 73.4 degrees times the sine
unfoldable pub surely_within : Float → Float → Float → Bool
surely_within square cosine tol =
    le least_degrees tol && le tol most_degrees && le nearly_one cosine && le nought square && le square one
    && le (mul binary64 square square_degrees) (mul binary64 tol tol)
