-- The sine and the cosine of a float r of at most 0.79, as the code computes them: the Taylor sums in Horner's form, in
-- floats. Definitions only.
use Rattle.std.specs.Prelude.{ℕ, zero, suc, ◌+◌, ◌*◌, ◌≤◌, false, cond, from_bits, Float}
use Rattle.std.specs.Float.{nan, inf, fin, binary64}
use Rattle.std.specs.Float.Ieee.{up, down, sub, mul, round}
use Rattle.trig.specs.Fraction.{Frac, negated, nothing, Near}
use Rattle.trig.specs.Taylor.{sin_sum, cos_sum}

abbrev pub plus_zero : Float
plus_zero = from_bits binary64 0

abbrev pub one : Float
one = from_bits binary64 0x3ff0_0000_0000_0000

-- the double nearest to 1 / c
unfoldable pub reciprocal : ℕ → Float
reciprocal c = round binary64 false 1 c

-- 1 - z / ((p + 1) (p + 2)) * taken: one term more, with the power p, before those that are taken
unfoldable pub step : Float → ℕ → Float → Float
unfolding reciprocal
step z p taken = sub binary64 one (mul binary64 (mul binary64 z (reciprocal ((p + 1) * (p + 2)))) taken)

-- n terms more, from the power p + 2 (n - 1) down to p
unfoldable pub sum : Float → Float → ℕ → ℕ → Float
unfolding step
sum z taken p zero = taken
sum z taken p (suc n) = sum z (step z (p + 2 * n) taken) p n

-- r (1 - r² / (2 * 3) (1 - r² / (4 * 5) ( .. ))), and 1 - r² / (1 * 2) (1 - r² / (3 * 4) ( .. )), with 12 terms after
-- the first
unfoldable pub sine_kernel : Float → Float
unfolding sum
sine_kernel r = mul binary64 r (sum (mul binary64 r r) one 1 12)

unfoldable pub cosine_kernel : Float → Float
unfolding sum
cosine_kernel r = sum (mul binary64 r r) one 0 12

-- ---- what holds of them, where |r| ≤ 0.79
abbrev pub Narrow : Float → Type 0
Narrow nan = ⊥
Narrow (inf s) = ⊥
Narrow (fin s m e) = 100 * (m * up e) ≤ 79 * down e

-- S(r) and C(r) of the float r itself
abbrev pub sine_sum : Float → Frac
sine_sum nan = nothing
sine_sum (inf s) = nothing
sine_sum (fin s m e) = cond s (negated (sin_sum (m * up e) (down e))) (sin_sum (m * up e) (down e))

abbrev pub cosine_sum : Float → Frac
cosine_sum nan = nothing
cosine_sum (inf s) = nothing
cosine_sum (fin s m e) = cos_sum (m * up e) (down e)

-- within 2 ^ -50 of them
abbrev pub SineNear : Float → Float → Type 0
SineNear r y = Narrow r → Near 50 y (sine_sum r)

abbrev pub CosineNear : Float → Float → Type 0
CosineNear r y = Narrow r → Near 50 y (cosine_sum r)
