-- The sine and the cosine of degrees are within 2 ^ -50 of the definition, at every angle up to 45,000 (`sine_right`,
-- `cosine_right`). Assumes nothing.
use Rattle.std.proofs.Common.{◌≡◌, ℕ, ◌*◌, ◌^◌, ◌≤◌, Bool, true, false, cond, T, ℤ, pos, sym, refl, ◌∙◌, subst, true≢false, arith, lit≤}
use lib.Ieee.{Float, nan, inf, fin, binary64, up, down, neg, mul, sub, of_int, of_bits, le, lt, eq, fits}
use lib.Ieee.Fits.{neg-fits, cond-fits}
use lib.Ieee.Positive.{num as top, den as bot}
use Rattle.float.specs.Helpers.{to_radians}
use Rattle.trig.specs.Fraction.{Frac, negated, Near}
use Rattle.trig.specs.Kernel.{plus_zero, one, sine_kernel, cosine_kernel}
use Rattle.trig.specs.Degrees.{degree_wave, sine_at, cosine_at, turnable, widest}
use Rattle.trig.specs.DegreeSteps.{degree_k, degree_below, degree_rest, degree_float, sine_degrees, cosine_degrees, UpToWidest}
use Rattle.trig.proofs.Choices.{is_true, chosen, both_true}
use Rattle.trig.proofs.WaveError.{near_neg, wave_odd, wave_even, zero_of, is_zero, le_cross}
use Rattle.trig.proofs.WaveSteps.{lt_pos, lt_neg}
use Rattle.trig.proofs.DegreeFloats.{degree_float_near}
use Rattle.trig.proofs.DegreeZeros.{degree_fits, zero_near, plain_near}

-- ---- the sign may stand outside
degree_odd : (a d : ℕ) → degree_wave true 0 a d ≡ negated (degree_wave false 0 a d)
unfolding degree_wave
degree_odd a d = wave_odd _ _

degree_even : (a d : ℕ) → degree_wave true 1 a d ≡ degree_wave false 1 a d
unfolding degree_wave
degree_even a d = wave_even _ _

-- ---- from the tests to `UpToWidest`
widest_is : widest ≡ fin false 5625 (pos 3)
unfolding of_bits
widest_is = refl

pub widest_above : (m : ℕ) (e : ℤ) → le (fin false m e) widest ≡ true → UpToWidest (fin false m e)
widest_above m e h = go (m * up e) (down e) (le_cross m e 5625 (pos 3) (is_true _ (subst (λ (z : Float). le (fin false m e) z ≡ true) widest_is h)))
  where
    go : (a d : ℕ) → a * 1 ≤ 5625 * 2 ^ 3 * d → a ≤ 45000 * d
    go a d h = omega arith

pub widest_below : (m : ℕ) (e : ℤ) → le (neg widest) (fin true m e) ≡ true → UpToWidest (fin false m e)
unfolding neg
widest_below m e h = widest_above m e (sym (Rattle.float.proofs.Order.neg_le (fin false m e) widest) ∙ h)

module _ (x : Float) (f : T (fits binary64 x)) (h : turnable x ≡ true) where
  pub high : le x widest ≡ true
  high = (both_true (le x widest) (le (neg widest) x) (unfold turnable in h)).0

  pub low : le (neg widest) x ≡ true
  low = (both_true (le x widest) (le (neg widest) x) (unfold turnable in h)).1

-- ---- the sine and the cosine of each x
zero_wave : (j : ℕ) → Near 50 (degree_float j (fin false 0 (pos 0))) (degree_wave false j 0 1)
zero_wave j = degree_float_near j (fin false 0 (pos 0)) (lit≤ tt) (unfold fits in tt)

sine_of_zero : degree_float 0 (fin false 0 (pos 0)) ≡ fin false 0 (pos 0)
unfolding degree_float degree_k degree_below degree_rest to_radians sine_kernel of_bits mul lib.Ieee.sub lib.Ieee.div lib.Ieee.of_int lt
sine_of_zero = refl

cosine_of_zero : degree_float 1 (fin false 0 (pos 0)) ≡ one
unfolding degree_float degree_k degree_below degree_rest to_radians cosine_kernel of_bits mul lib.Ieee.sub lib.Ieee.div lib.Ieee.of_int lt
cosine_of_zero = refl

nought_is : plus_zero ≡ fin false 0 (pos 0)
unfolding of_bits
nought_is = refl

sine_zero : (s : Bool) → Near 50 plus_zero (sine_at (fin s 0 (pos 0)))
sine_zero false = subst (λ (y : Float). Near 50 y (degree_wave false 0 0 1)) (sine_of_zero ∙ sym nought_is) (zero_wave 0)
sine_zero true =
    subst (λ (f : Frac). Near 50 plus_zero f) (sym (degree_odd 0 1))
    (subst (λ (y : Float). Near 50 y (negated (degree_wave false 0 0 1))) (sym nought_is) (zero_near 50 (negated (degree_wave false 0 0 1)) (subst (λ (y : Float). Near 50 y (negated (degree_wave false 0 0 1))) turned (near_neg 50 (fin false 0 (pos 0)) (degree_wave false 0 0 1) (subst (λ (y : Float). Near 50 y (degree_wave false 0 0 1)) sine_of_zero (zero_wave 0))))))
  where
    turned : neg (fin false 0 (pos 0)) ≡ fin true 0 (pos 0)
    turned = unfold neg in refl

cosine_plain : Near 50 one (degree_wave false 1 0 1)
cosine_plain = subst (λ (y : Float). Near 50 y (degree_wave false 1 0 1)) cosine_of_zero (zero_wave 1)

cosine_zero : (s : Bool) → Near 50 one (cosine_at (fin s 0 (pos 0)))
cosine_zero false = cosine_plain
cosine_zero true = subst (λ (f : Frac). Near 50 one f) (sym (degree_even 0 1)) cosine_plain

at_zero : (P : Float → Type 0) → ((s : Bool) → P (fin s 0 (pos 0))) → (x : Float) → T (fits binary64 x) → eq x plus_zero ≡ true → P x
at_zero P z nan f h = absurd (is_zero nan h)
at_zero P z (inf s) f h = absurd (is_zero (inf s) h)
at_zero P z (fin s m e) f h = subst P (zero_of s m e (is_zero (fin s m e) h) f) (z s)

below_sine : (x : Float) → T (fits binary64 x) → le (neg widest) x ≡ true → lt x plus_zero ≡ true → Near 50 (neg (degree_float 0 (neg x))) (sine_at x)
unfolding neg lt of_bits
below_sine nan f l h = absurd (true≢false (sym h))
below_sine (inf true) f l h = absurd (true≢false (sym (unfold le in l)))
below_sine (inf false) f l h = absurd (true≢false (sym h))
below_sine (fin false m e) f l h = absurd (true≢false (sym h ∙ lt_pos m e))
below_sine (fin true m e) f l h =
    subst (λ (g : Frac). Near 50 (neg (degree_float 0 (fin false m e))) g) (sym (degree_odd (m * up e) (down e)))
    (near_neg 50 (degree_float 0 (fin false m e)) (degree_wave false 0 (m * up e) (down e)) (degree_float_near 0 (fin false m e) (widest_below m e l) (neg-fits binary64 (fin true m e) f)))

below_cosine : (x : Float) → T (fits binary64 x) → le (neg widest) x ≡ true → lt x plus_zero ≡ true → Near 50 (degree_float 1 (neg x)) (cosine_at x)
unfolding neg lt of_bits
below_cosine nan f l h = absurd (true≢false (sym h))
below_cosine (inf true) f l h = absurd (true≢false (sym (unfold le in l)))
below_cosine (inf false) f l h = absurd (true≢false (sym h))
below_cosine (fin false m e) f l h = absurd (true≢false (sym h ∙ lt_pos m e))
below_cosine (fin true m e) f l h =
    subst (λ (g : Frac). Near 50 (degree_float 1 (fin false m e)) g) (sym (degree_even (m * up e) (down e)))
    (degree_float_near 1 (fin false m e) (widest_below m e l) (neg-fits binary64 (fin true m e) f))

above_either : (j : ℕ) (x : Float) → T (fits binary64 x) → le x widest ≡ true → eq x plus_zero ≡ false → lt x plus_zero ≡ false → Near 50 (degree_float j x) (degree_wave false j (top x) (bot x)) × (Rattle.float.specs.Helpers.negative x ≡ false)
unfolding lt of_bits
above_either j nan f l z h = absurd (true≢false (sym (unfold le in l)))
above_either j (inf true) f l z h = absurd (true≢false h)
above_either j (inf false) f l z h = absurd (true≢false (sym (unfold le in l)))
above_either j (fin true m e) f l z h = absurd (true≢false (sym (lt_neg m e z) ∙ h))
above_either j (fin false m e) f l z h = (degree_float_near j (fin false m e) (widest_above m e l) f, refl)

above_sine : (x : Float) → T (fits binary64 x) → le x widest ≡ true → eq x plus_zero ≡ false → lt x plus_zero ≡ false → Near 50 (degree_float 0 x) (sine_at x)
unfolding of_bits
above_sine nan f l z h = absurd (true≢false (sym (unfold le in l)))
above_sine (inf true) f l z h = absurd (true≢false (unfold lt of_bits in h))
above_sine (inf false) f l z h = absurd (true≢false (sym (unfold le in l)))
above_sine (fin true m e) f l z h = absurd (true≢false (above_either 0 (fin true m e) f l z h).1)
above_sine (fin false m e) f l z h = (above_either 0 (fin false m e) f l z h).0

above_cosine : (x : Float) → T (fits binary64 x) → le x widest ≡ true → eq x plus_zero ≡ false → lt x plus_zero ≡ false → Near 50 (degree_float 1 x) (cosine_at x)
unfolding of_bits
above_cosine nan f l z h = absurd (true≢false (sym (unfold le in l)))
above_cosine (inf true) f l z h = absurd (true≢false (unfold lt of_bits in h))
above_cosine (inf false) f l z h = absurd (true≢false (sym (unfold le in l)))
above_cosine (fin true m e) f l z h = absurd (true≢false (above_either 1 (fin true m e) f l z h).1)
above_cosine (fin false m e) f l z h = (above_either 1 (fin false m e) f l z h).0

module _ (x : Float) (f : T (fits binary64 x)) (h : turnable x ≡ true) where
  pub sine_right : Near 50 (sine_degrees x) (sine_at x)
  unfolding sine_degrees
  sine_right =
      chosen (λ (y : Float). Near 50 y (sine_at x)) (eq x plus_zero) _ _ (λ z. at_zero (λ (y : Float). Near 50 plus_zero (sine_at y)) sine_zero x f z)
      (λ z. plain_near 50 _ (sine_at x) (cond-fits binary64 (lt x plus_zero) _ _ (neg-fits binary64 _ (degree_fits 0 (neg x))) (degree_fits 0 x))
      (chosen (λ (y : Float). Near 50 y (sine_at x)) (lt x plus_zero) _ _ (λ l. below_sine x f (low x f h) l) (λ l. above_sine x f (high x f h) z l)))

  pub cosine_right : Near 50 (cosine_degrees x) (cosine_at x)
  unfolding cosine_degrees
  cosine_right =
      chosen (λ (y : Float). Near 50 y (cosine_at x)) (eq x plus_zero) _ _ (λ z. at_zero (λ (y : Float). Near 50 one (cosine_at y)) cosine_zero x f z)
      (λ z. plain_near 50 _ (cosine_at x) (cond-fits binary64 (lt x plus_zero) _ _ (degree_fits 1 (neg x)) (degree_fits 1 x))
      (chosen (λ (y : Float). Near 50 y (cosine_at x)) (lt x plus_zero) _ _ (λ l. below_cosine x f (low x f h) l) (λ l. above_cosine x f (high x f h) z l)))

-- ---- the size of x, for the code
pub size_within : (x : Float) → T (fits binary64 x) → turnable x ≡ true → (a : Float) → eq x plus_zero ≡ false → a ≡ cond (lt x plus_zero) (neg x) x → UpToWidest a
size_within x f h a z e = subst UpToWidest (sym e) (chosen UpToWidest (lt x plus_zero) (neg x) x (λ l. under x (low x f h) l) (λ l. over x (high x f h) z l))
  where
    under : (x : Float) → le (neg widest) x ≡ true → lt x plus_zero ≡ true → UpToWidest (neg x)
    under nan l h = absurd (true≢false (sym (unfold lt in h)))
    under (inf true) l h = absurd (true≢false (sym (unfold le neg of_bits in l)))
    under (inf false) l h = absurd (true≢false (sym (unfold lt of_bits in h)))
    under (fin false m e) l h = absurd (true≢false (sym h ∙ lt_pos m e))
    under (fin true m e) l h = unfold neg in widest_below m e l

    over : (x : Float) → le x widest ≡ true → eq x plus_zero ≡ false → lt x plus_zero ≡ false → UpToWidest x
    over nan l z h = absurd (true≢false (sym (unfold le in l)))
    over (inf true) l z h = absurd (true≢false (unfold lt of_bits in h))
    over (inf false) l z h = absurd (true≢false (sym (unfold le of_bits in l)))
    over (fin true m e) l z h = absurd (true≢false (sym (lt_neg m e z) ∙ h))
    over (fin false m e) l z h = widest_above m e l
