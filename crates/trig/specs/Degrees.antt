-- The sine and the cosine of an angle in degrees, for turning. The angle is brought below 360 by the exact remainder,
-- and the definition is document 01's at what is left times Pi over 180 (`sine_at`, `cosine_at`). `DegreesRight` is
-- what `of_degrees` promises of its pair; `DegreeSteps` names that pair, step by step. Definitions only.
use Rattle.std.specs.Prelude.{◌≡◌, ℕ, zero, suc, ◌*◌, ◌%◌, Bool, true, false, cond, from_bits, Float, None, Option, Some}
use Rattle.std.specs.Float.{nan, inf, fin, binary64}
use Rattle.std.specs.Float.Ieee.{up, down, add, neg, le}
use Rattle.std.specs.Float.Ieee.Positive.{num as top, den as bot}
use Rattle.std.specs.Float.Ieee.Scale.{finite}
use Rattle.float.specs.Helpers.{negative}
use Rattle.trig.specs.Fraction.{Frac, nothing, Near}
use Rattle.trig.specs.Angle.{pi_num, pi_den, wave, quarter}
use Rattle.trig.specs.Kernel.{plus_zero, one}
use Rattle.trig.specs.Waves.{Sized}
use Rattle.trig.specs.declared.Pair.{Pair}

-- ---- the definition
-- sin (x + j * 90 degrees), for x = a / d degrees, or -a / d where s is true. `a % (360 * d)` over d is the exact
-- remainder of |x| by 360, and `wave` takes it times Pi over 180
unfoldable pub degree_wave : Bool → ℕ → ℕ → ℕ → Frac
unfolding wave
degree_wave s j a d = wave s j (a % (360 * d) * pi_num) (d * (180 * pi_den))

-- of a float in degrees
abbrev pub sine_at : Float → Frac
sine_at nan = nothing
sine_at (inf s) = nothing
sine_at (fin s m e) = degree_wave s 0 (m * up e) (down e)

abbrev pub cosine_at : Float → Frac
cosine_at nan = nothing
cosine_at (inf s) = nothing
cosine_at (fin s m e) = degree_wave s 1 (m * up e) (down e)

-- |x| ≤ 45,000: false of a NaN. No entry asks for a turn beyond that: the files NeverFallback.antt of chain, inverse,
-- path and divide prove it
abbrev pub widest : Float
widest = from_bits binary64 0x40e5_f900_0000_0000

unfoldable pub turnable : Float → Bool
turnable x = cond (le x widest) (le (neg widest) x) false

-- -0.0 becomes +0.0, and every other float stays
abbrev pub plain : Float → Float
plain y = add binary64 y plus_zero

-- ---- what holds of the pair
-- of n quarter turns: exactly +0.0, 1 or -1
abbrev pub square_pair : ℕ → Pair
square_pair zero = record { sine = plus_zero; cosine = one }
square_pair (suc zero) = record { sine = one; cosine = plus_zero }
square_pair (suc (suc zero)) = record { sine = plus_zero; cosine = neg one }
square_pair (suc (suc (suc n))) = record { sine = neg one; cosine = plus_zero }

-- the pair of the negated angle: the sine negated, a zero staying +0.0
abbrev pub opposite : Option Pair → Option Pair
opposite (Some p) = Some (record { sine = plain (neg p.sine); cosine = p.cosine })
opposite None = None

-- both within 2 ^ -50 of the definition, finite, at most 1 + 2 ^ -50 in size, and never -0.0; and at every multiple of
-- 90 degrees, n of them above or below zero, exactly +0.0, 1 or -1
pub record DegreesRight (x : Float) (p : Pair) : Type 0 where
  pub sine_near : Near 50 p.sine (sine_at x)
  pub cosine_near : Near 50 p.cosine (cosine_at x)
  pub sine_finite : finite p.sine ≡ true
  pub cosine_finite : finite p.cosine ≡ true
  pub sine_size : Sized p.sine
  pub cosine_size : Sized p.cosine
  pub sine_sign : p.sine ≡ neg plus_zero → ⊥
  pub cosine_sign : p.cosine ≡ neg plus_zero → ⊥
  pub right_angles : (n : ℕ) → finite x ≡ true → top x ≡ 90 * n * bot x → p ≡ square_pair (quarter (negative x) n % 4)

-- out of range exactly where |x| ≤ 45,000 is false
abbrev pub TurnRight : Float → Option Pair → Type 0
TurnRight x (Some p) = (turnable x ≡ true) × DegreesRight x p
TurnRight x None = turnable x ≡ false
