-- The sine and the cosine of degrees are doubles (`degree_fits`), and what `plain` does: it makes a -0.0 a +0.0
-- (`plain_sign`) and keeps the bound, the size and the rest of a float. Assumes nothing.
use Rattle.std.proofs.Common.{◌≡◌, ℕ, zero, suc, ◌+◌, ◌*◌, ◌%◌, ◌^◌, ◌≤◌, Bool, true, false, T, ℤ, pos, sym, refl, ap, ◌∙◌, subst, true≢false, arith, lit≤}
use lib.Ieee.{Float, nan, inf, fin, binary64, neg, mul, add, of_bits, fits}
use lib.Ieee.Fits.{neg-fits, mul-fits, sub-fits, cond-fits}
use lib.Ieee.Bits.{of_bits-fits}
use Rattle.float.specs.Helpers.{nought, negative}
use Rattle.float.proofs.Zeros.{add_zero}
use Rattle.trig.specs.Fraction.{Frac, Near}
use lib.Ieee.Scale.{finite}
use Rattle.trig.specs.Kernel.{plus_zero, one, step, sum, sine_kernel, cosine_kernel}
use Rattle.trig.specs.Kernel as Kernel
use Rattle.trig.specs.Waves.{placed, Sized}
use Rattle.trig.specs.Degrees.{plain}
use Rattle.trig.specs.DegreeSteps.{degree_k, degree_below, degree_rest, degree_float}
use Rattle.trig.proofs.WaveError.{zero_of}

-- ---- they are doubles
sum_fits : (n p : ℕ) (z taken : Float) → T (fits binary64 taken) → T (fits binary64 (sum z taken p n))
unfolding sum
sum_fits zero p z taken f = f
sum_fits (suc n) p z taken f = sum_fits n p z (step z (p + 2 * n) taken) (unfold step in sub-fits binary64 Kernel.one _)

sine_kernel_fits : (r : Float) → T (fits binary64 (sine_kernel r))
unfolding sine_kernel
sine_kernel_fits r = mul-fits binary64 r _

cosine_kernel_fits : (r : Float) → T (fits binary64 (cosine_kernel r))
unfolding cosine_kernel
cosine_kernel_fits r = sum_fits 12 0 (mul binary64 r r) Kernel.one (of_bits-fits binary64 0x3ff0_0000_0000_0000)

placed_fits : (k : ℕ) (b : Bool) (s c : Float) → T (fits binary64 s) → T (fits binary64 c) → T (fits binary64 (placed k b s c))
placed_fits zero b s c f g = cond-fits binary64 b (neg s) s (neg-fits binary64 s f) f
placed_fits (suc zero) b s c f g = g
placed_fits (suc (suc zero)) b s c f g = cond-fits binary64 b s (neg s) f (neg-fits binary64 s f)
placed_fits (suc (suc (suc k))) b s c f g = neg-fits binary64 c g

pub degree_fits : (j : ℕ) (a : Float) → T (fits binary64 (degree_float j a))
unfolding degree_float
degree_fits j a = placed_fits ((degree_k a + j) % 4) (degree_below a) _ _ (sine_kernel_fits (degree_rest a)) (cosine_kernel_fits (degree_rest a))

-- ---- +0.0 for a zero
pub zero_near : (h : ℕ) (f : Frac) → Near h (fin true 0 (pos 0)) f → Near h (fin false 0 (pos 0)) f
zero_near h f n = record { below = go (2 ^ h) f.plus f.minus f.over n.above; above = og (2 ^ h) f.plus f.minus f.over n.below }
  where
    go : (H p m o : ℕ) → H * (m * 1) ≤ H * (0 * 1 * o + p * 1) + o * 1 → H * (0 * 1 * o + m * 1) ≤ H * (p * 1) + o * 1
    go H p m o l = omega arith

    og : (H p m o : ℕ) → H * (0 * 1 * o + p * 1) ≤ H * (m * 1) + o * 1 → H * (p * 1) ≤ H * (0 * 1 * o + m * 1) + o * 1
    og H p m o l = omega arith

plain_zero : (s : Bool) → plain (fin s 0 (pos 0)) ≡ fin false 0 (pos 0)
unfolding add of_bits
plain_zero true = refl
plain_zero false = refl

not_minus : (s : Bool) (m : ℕ) (e : ℤ) → fin s (suc m) e ≡ neg nought → ⊥
unfolding neg of_bits
not_minus s m e p = clash (ap digits p)
  where
    digits : Float → ℕ
    digits nan = 0
    digits (inf s) = 0
    digits (fin s m e) = m

    clash : suc m ≡ 0 → ⊥
    clash h = omega arith

pub plain_same : (s : Bool) (m : ℕ) (e : ℤ) → T (fits binary64 (fin s (suc m) e)) → plain (fin s (suc m) e) ≡ fin s (suc m) e
plain_same s m e f = add_zero (fin s (suc m) e) f (not_minus s m e)

pub plain_near : (h : ℕ) (y : Float) (f : Frac) → T (fits binary64 y) → Near h y f → Near h (plain y) f
plain_near h nan f t n = absurd n
plain_near h (inf s) f t n = absurd n
plain_near h (fin s zero e) f t n =
    let z = zero_of s 0 e refl t in
    subst (λ (y : Float). Near h (plain y) f) z (subst (λ (y : Float). Near h y f) (sym (plain_zero s)) (at s (subst (λ (y : Float). Near h y f) (sym z) n)))
  where
    at : (s : Bool) → Near h (fin s 0 (pos 0)) f → Near h (fin false 0 (pos 0)) f
    at true n = zero_near h f n
    at false n = n
plain_near h (fin s (suc m) e) f t n = subst (λ (y : Float). Near h y f) (sym (plain_same s m e t)) n

pub plain_back : (y : Float) → T (fits binary64 y) → plain (neg (plain y)) ≡ plain (neg y)
plain_back nan f = unfold add neg in refl
plain_back (inf true) f = unfold add neg of_bits in refl
plain_back (inf false) f = unfold add neg of_bits in refl
plain_back (fin s zero e) f = subst (λ (y : Float). plain (neg (plain y)) ≡ plain (neg y)) (zero_of s 0 e refl f) (at s)
  where
    at : (s : Bool) → plain (neg (plain (fin s 0 (pos 0)))) ≡ plain (neg (fin s 0 (pos 0)))
    at true = unfold add neg of_bits in refl
    at false = unfold add neg of_bits in refl
plain_back (fin s (suc m) e) f = ap (λ (y : Float). plain (neg y)) (plain_same s m e f)

pub plain_sized : (y : Float) → T (fits binary64 y) → Sized y → Sized (plain y)
plain_sized nan f h = unfold add in h
plain_sized (inf s) f h = unfold add of_bits in h
plain_sized (fin s zero e) f h = subst (λ (y : Float). Sized (plain y)) (zero_of s 0 e refl f) (subst Sized (sym (plain_zero s)) (lit≤ tt))
plain_sized (fin s (suc m) e) f h = subst Sized (sym (plain_same s m e f)) h

pub plain_finite : (y : Float) → T (fits binary64 y) → finite y ≡ true → finite (plain y) ≡ true
plain_finite nan f h = absurd (true≢false (sym h))
plain_finite (inf s) f h = absurd (true≢false (sym h))
plain_finite (fin s zero e) f h = subst (λ (y : Float). finite (plain y) ≡ true) (zero_of s 0 e refl f) (ap finite (plain_zero s))
plain_finite (fin s (suc m) e) f h = ap finite (plain_same s m e f)

pub nought_sized : Sized plus_zero
unfolding of_bits
nought_sized = lit≤ tt

-- ---- never -0.0
minus_zero_is : neg plus_zero ≡ fin true 0 (pos 0)
unfolding neg of_bits
minus_zero_is = refl

plain_nan : plain nan ≡ nan
unfolding add
plain_nan = refl

plain_inf : (s : Bool) → plain (inf s) ≡ inf s
unfolding add of_bits
plain_inf s = refl

pub plain_sign : (y : Float) → T (fits binary64 y) → plain y ≡ neg plus_zero → ⊥
plain_sign nan f h = true≢false (sym (ap finite (sym plain_nan ∙ h ∙ minus_zero_is)))
plain_sign (inf s) f h = true≢false (sym (ap finite (sym (plain_inf s) ∙ h ∙ minus_zero_is)))
plain_sign (fin s zero e) f h =
    true≢false (sym (ap negative (sym (plain_zero s) ∙ subst (λ (y : Float). plain y ≡ neg plus_zero) (sym (zero_of s 0 e refl f)) h ∙ minus_zero_is)))
plain_sign (fin s (suc m) e) f h = not_minus s m e (sym (plain_same s m e f) ∙ h)

pub nought_sign : plus_zero ≡ neg plus_zero → ⊥
unfolding neg of_bits
nought_sign h = true≢false (sym (ap negative h))

pub one_sign : one ≡ neg plus_zero → ⊥
unfolding neg of_bits
one_sign h = true≢false (sym (ap negative h))
