-- Worked examples of the contracts' words, by computation: the definitions say what is meant. Assumes nothing.
use Rattle.std.proofs.Common.{◌≡◌, ◌-◌, ◌*◌, true, false, pos, refl, not-le_of_lt, lit<, lit≤}
use lib.Ieee.{fin, binary64, of_bits}
use Rattle.trig.specs.Fraction.{Near, Positive}
use Rattle.trig.specs.Taylor.{rising, terms, sin_sum, cos_sum}
use Rattle.trig.specs.Angle.{pi_num, pi_den, nearest_k, wave, sine, cosine}
use Rattle.trig.specs.Direction.{Toward, along, pi}

-- ---- S and C
-- 5! = 120, and 7! / 4! = 5 * 6 * 7
factorial_5 : rising 0 5 ≡ 120
unfolding rising
factorial_5 = refl

from_4_to_7 : rising 4 3 ≡ 5 * 6 * 7
unfolding rising
from_4_to_7 = refl

-- the first two terms at 1/2 over 2 ^ 3 * 3!: 1/2 - (1/2)³ / 3! = (24 - 1) / 48
two_terms : terms 1 2 true 1 1 - terms 1 2 false 1 1 ≡ 23
unfolding terms
two_terms = refl

-- C(0) = 1: plus is over
cos_0 : (cos_sum 0 1).plus ≡ (cos_sum 0 1).over
unfolding cos_sum
cos_0 = refl

sin_0 : (sin_sum 0 1).plus ≡ 0
unfolding sin_sum
sin_0 = refl

-- ---- k, of 1, 3 and 800
k_1 : nearest_k 1 1 ≡ 1
unfolding nearest_k pi_num pi_den
k_1 = refl

k_3 : nearest_k 3 1 ≡ 2
unfolding nearest_k pi_num pi_den
k_3 = refl

k_800 : nearest_k 800 1 ≡ 509
unfolding nearest_k pi_num pi_den
k_800 = refl

-- a half goes away from zero: Pi / 4 itself
k_tie : nearest_k pi_num (4 * pi_den) ≡ 1
unfolding nearest_k pi_num pi_den
k_tie = refl

-- ---- libm's sin 1, cos 1, sin 800, cos (-800) and sin (-3)
sin_1 : Near 50 (unfold of_bits in of_bits binary64 0x3feaed548f090cee) (sine (fin false 1 (pos 0)))
unfolding of_bits wave nearest_k pi_num pi_den
sin_1 = record { below = lit≤ tt; above = lit≤ tt }

cos_1 : Near 50 (unfold of_bits in of_bits binary64 0x3fe14a280fb5068c) (cosine (fin false 1 (pos 0)))
unfolding of_bits wave nearest_k pi_num pi_den
cos_1 = record { below = lit≤ tt; above = lit≤ tt }

sin_800 : Near 50 (unfold of_bits in of_bits binary64 0x3fec9b663c53ee3e) (sine (fin false 25 (pos 5)))
unfolding of_bits wave nearest_k pi_num pi_den
sin_800 = record { below = lit≤ tt; above = lit≤ tt }

cos_minus_800 : Near 50 (unfold of_bits in of_bits binary64 0xbfdcae1f056d3e76) (cosine (fin true 25 (pos 5)))
unfolding of_bits wave nearest_k pi_num pi_den
cos_minus_800 = record { below = lit≤ tt; above = lit≤ tt }

sin_minus_3 : Near 50 (unfold of_bits in of_bits binary64 0xbfc210386db6d55b) (sine (fin true 3 (pos 0)))
unfolding of_bits wave nearest_k pi_num pi_den
sin_minus_3 = record { below = lit≤ tt; above = lit≤ tt }

-- ---- directions
-- atan2 1 2 = 0.4636476090008061
at_1_2 : Toward (fin false 1 (pos 0)) (fin false 1 (pos 1)) (unfold of_bits in of_bits binary64 0x3fddac670561bb4f)
unfolding of_bits wave nearest_k pi_num pi_den
at_1_2 = record { small = record { above = lit≤ tt; below = lit≤ tt }; ahead = lit< tt }

-- atan2 (-3) (-1) = -1.892546881191539
at_minus_3_minus_1 : Toward (fin true 3 (pos 0)) (fin true 1 (pos 0)) (unfold of_bits in of_bits binary64 0xbffe47df3d0dd4d1)
unfolding of_bits wave nearest_k pi_num pi_den
at_minus_3_minus_1 = record { small = record { above = lit≤ tt; below = lit≤ tt }; ahead = lit< tt }

-- atan2 0 (-1) = pi
at_0_minus_1 : Toward (fin false 0 (pos 0)) (fin true 1 (pos 0)) pi
unfolding wave nearest_k pi_num pi_den
at_0_minus_1 = record { small = record { above = lit≤ tt; below = lit≤ tt }; ahead = lit< tt }

-- the opposite direction is refused: for atan2 0 1, pi
opposite : Positive (along (fin false 0 (pos 0)) (fin false 1 (pos 0)) pi) → ⊥
unfolding wave nearest_k pi_num pi_den
opposite h = not-le_of_lt h (lit≤ tt)
