-- Worked examples of the definitions, computed by the checker: what the helpers answer at zeros, halves, the ends of
-- the format, infinities and nan.
use Rattle.std.specs.Prelude.{◌≡◌, true, false, refl}
use Rattle.std.specs.Float.{nan, binary64}
use Rattle.std.specs.Float.Ieee.{round, mul, neg, lt, eq, is_nan, of_bits}
use Rattle.std.specs.Float.Ieee.Scale.{finite}
use Rattle.float.specs.Helpers.{size_of, round_half_away, clamp_unit, maximum, minimum, to_radians, to_degrees}
use Rattle.float.specs.TotalOrder.{before}

-- finite: the largest value is, an infinity and nan are not
finite_largest : finite (of_bits binary64 0x7fef_ffff_ffff_ffff) ≡ true
unfolding of_bits
finite_largest = refl

finite_infinity : finite (of_bits binary64 0xfff0_0000_0000_0000) ≡ false
unfolding of_bits
finite_infinity = refl

finite_nan : finite nan ≡ false
finite_nan = refl

-- size: -0.0 gives +0.0, and an infinity +infinity
size_minus_zero : size_of (of_bits binary64 0x8000_0000_0000_0000) ≡ (of_bits binary64 0)
unfolding size_of of_bits
size_minus_zero = refl

size_minus_infinity : size_of (of_bits binary64 0xfff0_0000_0000_0000) ≡ (of_bits binary64 0x7ff0_0000_0000_0000)
unfolding size_of of_bits
size_minus_infinity = refl

-- round: halves away from zero, and the sign stays
round_half : round_half_away (of_bits binary64 0x3fe0_0000_0000_0000) ≡ (of_bits binary64 0x3ff0_0000_0000_0000)
unfolding round_half_away round of_bits
round_half = refl

round_two_and_a_half : round_half_away (of_bits binary64 0x4004_0000_0000_0000) ≡ (of_bits binary64 0x4008_0000_0000_0000)
unfolding round_half_away round of_bits
round_two_and_a_half = refl

round_minus_half : round_half_away (of_bits binary64 0xbfe0_0000_0000_0000) ≡ (of_bits binary64 0xbff0_0000_0000_0000)
unfolding round_half_away round of_bits
round_minus_half = refl

round_below_half : round_half_away (of_bits binary64 0x3fdf_ffff_ffff_ffff) ≡ (of_bits binary64 0)
unfolding round_half_away round of_bits
round_below_half = refl

round_minus_third : round_half_away (of_bits binary64 0xbfd3_3333_3333_3333) ≡ (of_bits binary64 0x8000_0000_0000_0000)
unfolding round_half_away round of_bits
round_minus_third = refl

round_minus_zero : round_half_away (of_bits binary64 0x8000_0000_0000_0000) ≡ (of_bits binary64 0x8000_0000_0000_0000)
unfolding round_half_away round of_bits
round_minus_zero = refl

round_below_2_52 : round_half_away (of_bits binary64 0x432f_ffff_ffff_ffff) ≡ (of_bits binary64 0x4330_0000_0000_0000)
unfolding round_half_away round of_bits
round_below_2_52 = refl

round_large : round_half_away (of_bits binary64 0x7e37_e43c_8800_759c) ≡ (of_bits binary64 0x7e37_e43c_8800_759c)
unfolding round_half_away round of_bits
round_large = refl

round_least : round_half_away (of_bits binary64 0x0000_0000_0000_0001) ≡ (of_bits binary64 0)
unfolding round_half_away round of_bits
round_least = refl

round_infinity : round_half_away (of_bits binary64 0xfff0_0000_0000_0000) ≡ (of_bits binary64 0xfff0_0000_0000_0000)
unfolding round_half_away of_bits
round_infinity = refl

-- clamp to -1..1
clamp_above : clamp_unit (of_bits binary64 0x3ff0_0000_0000_0001) ≡ (of_bits binary64 0x3ff0_0000_0000_0000)
unfolding clamp_unit of_bits
clamp_above = refl

clamp_below : clamp_unit (of_bits binary64 0xfff0_0000_0000_0000) ≡ (of_bits binary64 0xbff0_0000_0000_0000)
unfolding clamp_unit neg of_bits
clamp_below = refl

clamp_inside : clamp_unit (of_bits binary64 0x8000_0000_0000_0000) ≡ (of_bits binary64 0x8000_0000_0000_0000)
unfolding clamp_unit of_bits
clamp_inside = refl

clamp_nan : clamp_unit nan ≡ nan
unfolding clamp_unit
clamp_nan = refl

-- the larger and the smaller: of a nan and a number the number, of two zeros the first
maximum_nan : maximum nan (of_bits binary64 0x3ff0_0000_0000_0000) ≡ (of_bits binary64 0x3ff0_0000_0000_0000)
unfolding maximum is_nan
maximum_nan = refl

maximum_to_nan : maximum (of_bits binary64 0x3ff0_0000_0000_0000) nan ≡ (of_bits binary64 0x3ff0_0000_0000_0000)
unfolding maximum is_nan lt of_bits
maximum_to_nan = refl

maximum_zeros : maximum (of_bits binary64 0x8000_0000_0000_0000) (of_bits binary64 0) ≡ (of_bits binary64 0x8000_0000_0000_0000)
unfolding maximum is_nan lt of_bits
maximum_zeros = refl

minimum_two : minimum (of_bits binary64 0x4008_0000_0000_0000) (of_bits binary64 0xc000_0000_0000_0000) ≡ (of_bits binary64 0xc000_0000_0000_0000)
unfolding minimum is_nan lt of_bits
minimum_two = refl

-- totalOrder: -0.0 before +0.0, nan last
before_zeros : before (of_bits binary64 0x8000_0000_0000_0000) (of_bits binary64 0) ≡ true
unfolding before is_nan lt eq of_bits
before_zeros = refl

before_zeros_back : before (of_bits binary64 0) (of_bits binary64 0x8000_0000_0000_0000) ≡ false
unfolding before is_nan lt eq of_bits
before_zeros_back = refl

before_nan : before (of_bits binary64 0x7ff0_0000_0000_0000) nan ≡ true
unfolding before is_nan lt eq of_bits
before_nan = refl

-- degrees and radians: pi is 180 degrees both ways
radians_180 : to_radians (of_bits binary64 0x4066_8000_0000_0000) ≡ (of_bits binary64 0x4009_21fb_5444_2d18)
unfolding to_radians mul of_bits
radians_180 = refl

degrees_pi : to_degrees (of_bits binary64 0x4009_21fb_5444_2d18) ≡ (of_bits binary64 0x4066_8000_0000_0000)
unfolding to_degrees mul of_bits
degrees_pi = refl
