-- Worked examples of the root, computed by the checker, at the ends of the format, zeros, infinities and below zero.
use Rattle.std.specs.Prelude.{◌≡◌, refl}
use Rattle.std.specs.Float.{nan, binary64}
use Rattle.std.specs.Float.Ieee.{round, of_bits}
use Rattle.root.specs.Root.{root}

-- the root: 2, 4, 1e-12, the largest value, the least normal one, the largest and the least below it
root_two : root (of_bits binary64 0x4000_0000_0000_0000) ≡ (of_bits binary64 0x3ff6_a09e_667f_3bcd)
unfolding root of_bits round
root_two = refl

root_four : root (of_bits binary64 0x4010_0000_0000_0000) ≡ (of_bits binary64 0x4000_0000_0000_0000)
unfolding root of_bits round
root_four = refl

root_tiny : root (of_bits binary64 0x3d71_9799_812d_ea11) ≡ (of_bits binary64 0x3eb0_c6f7_a0b5_ed8d)
unfolding root of_bits round
root_tiny = refl

root_largest : root (of_bits binary64 0x7fef_ffff_ffff_ffff) ≡ (of_bits binary64 0x5fef_ffff_ffff_ffff)
unfolding root of_bits round
root_largest = refl

root_least_normal : root (of_bits binary64 0x0010_0000_0000_0000) ≡ (of_bits binary64 0x2000_0000_0000_0000)
unfolding root of_bits round
root_least_normal = refl

root_below_normal : root (of_bits binary64 0x000f_ffff_ffff_ffff) ≡ (of_bits binary64 0x1fff_ffff_ffff_ffff)
unfolding root of_bits round
root_below_normal = refl

root_least : root (of_bits binary64 0x0000_0000_0000_0001) ≡ (of_bits binary64 0x1e60_0000_0000_0000)
unfolding root of_bits round
root_least = refl

-- zeros, infinities, and what is below zero
root_zero : root (of_bits binary64 0) ≡ (of_bits binary64 0)
unfolding root of_bits round
root_zero = refl

root_minus_zero : root (of_bits binary64 0x8000_0000_0000_0000) ≡ (of_bits binary64 0x8000_0000_0000_0000)
unfolding root of_bits round
root_minus_zero = refl

root_infinity : root (of_bits binary64 0x7ff0_0000_0000_0000) ≡ (of_bits binary64 0x7ff0_0000_0000_0000)
unfolding root of_bits round
root_infinity = refl

root_minus_infinity : root (of_bits binary64 0xfff0_0000_0000_0000) ≡ nan
unfolding root of_bits round
root_minus_infinity = refl

root_minus_one : root (of_bits binary64 0xbff0_0000_0000_0000) ≡ nan
unfolding root of_bits round
root_minus_one = refl
