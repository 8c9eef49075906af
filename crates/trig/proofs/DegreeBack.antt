-- Turning back: the pair of the negated angle has the same cosine and the sine negated, in every bit, a zero staying
-- +0.0 both ways (`pair_back`). Assumes nothing.
use Rattle.std.proofs.Common.{◌≡◌, ℕ, Bool, true, false, cond, ◌⊎◌, ℤ, sym, refl, ap, ◌∙◌, inl, inr, true≢false}
use lib.Ieee.{Float, nan, inf, fin, binary64, neg, add, of_bits, le, lt, eq}
use lib.Ieee.Fits.{neg-fits}
use Rattle.std.specs.Prelude.{None, Option, Some}
use Rattle.float.proofs.Order.{neg_neg, neg_le}
use Rattle.trig.specs.declared.Pair.{Pair}
use Rattle.trig.specs.Kernel.{plus_zero, one}
use Rattle.trig.specs.Degrees.{plain, turnable, widest, opposite}
use Rattle.trig.specs.DegreeSteps.{degree_float, sine_degrees, cosine_degrees, degree_pair}
use Rattle.trig.proofs.Choices.{split, pick, drop}
use Rattle.trig.proofs.WaveSteps.{lt_pos, lt_neg, swap}
use Rattle.trig.proofs.DegreeZeros.{degree_fits, plain_back}

module _ (m : ℕ) (e : ℤ) where
  pub above_is : eq (fin false m e) plus_zero ≡ false → sine_degrees (fin false m e) ≡ plain (degree_float 0 (fin false m e))
  unfolding sine_degrees
  above_is z = sym (ap plain (drop (lt (fin false m e) plus_zero) _ _ (lt_pos m e)) ∙ drop (eq (fin false m e) plus_zero) _ _ z)

  under_is : eq (fin true m e) plus_zero ≡ false → sine_degrees (fin true m e) ≡ plain (neg (degree_float 0 (fin false m e)))
  unfolding sine_degrees neg
  under_is z = sym (ap plain (pick (lt (fin true m e) plus_zero) _ _ (lt_neg m e z)) ∙ drop (eq (fin true m e) plus_zero) _ _ z)

  pub cosine_above : eq (fin false m e) plus_zero ≡ false → cosine_degrees (fin false m e) ≡ plain (degree_float 1 (fin false m e))
  unfolding cosine_degrees
  cosine_above z = sym (ap plain (drop (lt (fin false m e) plus_zero) _ _ (lt_pos m e)) ∙ drop (eq (fin false m e) plus_zero) _ _ z)

  cosine_under : eq (fin true m e) plus_zero ≡ false → cosine_degrees (fin true m e) ≡ plain (degree_float 1 (fin false m e))
  unfolding cosine_degrees neg
  cosine_under z = sym (ap plain (pick (lt (fin true m e) plus_zero) _ _ (lt_neg m e z)) ∙ drop (eq (fin true m e) plus_zero) _ _ z)

pub zero_sine : (x : Float) → eq x plus_zero ≡ true → sine_degrees x ≡ plus_zero
unfolding sine_degrees
zero_sine x z = sym (pick (eq x plus_zero) _ _ z)

pub zero_cosine : (x : Float) → eq x plus_zero ≡ true → cosine_degrees x ≡ one
unfolding cosine_degrees
zero_cosine x z = sym (pick (eq x plus_zero) _ _ z)

zero_back : plus_zero ≡ plain (neg plus_zero)
unfolding add neg of_bits
zero_back = refl

neg_true : (m : ℕ) (e : ℤ) → neg (fin true m e) ≡ fin false m e
unfolding neg
neg_true m e = refl

pub neg_false : (m : ℕ) (e : ℤ) → neg (fin false m e) ≡ fin true m e
unfolding neg
neg_false m e = refl

pub sine_back : (s : Bool) (m : ℕ) (e : ℤ) → sine_degrees (neg (fin s m e)) ≡ plain (neg (sine_degrees (fin s m e)))
sine_back s m e = go s (split (eq (fin s m e) plus_zero))
  where
    go : (s : Bool) → (eq (fin s m e) plus_zero ≡ true) ⊎ (eq (fin s m e) plus_zero ≡ false) → sine_degrees (neg (fin s m e)) ≡ plain (neg (sine_degrees (fin s m e)))
    go s (inl z) = zero_sine (neg (fin s m e)) (swap s m e ∙ z) ∙ zero_back ∙ ap (λ (y : Float). plain (neg y)) (sym (zero_sine (fin s m e) z))
    go true (inr z) =
        ap sine_degrees (neg_true m e) ∙ above_is m e (ap (λ (y : Float). eq y plus_zero) (sym (neg_true m e)) ∙ swap true m e ∙ z)
        ∙ ap plain (sym (neg_neg (degree_float 0 (fin false m e)))) ∙ sym (plain_back (neg (degree_float 0 (fin false m e))) (neg-fits binary64 _ (degree_fits 0 (fin false m e))))
        ∙ ap (λ (y : Float). plain (neg y)) (sym (under_is m e z))
    go false (inr z) =
        ap sine_degrees (neg_false m e) ∙ under_is m e (ap (λ (y : Float). eq y plus_zero) (sym (neg_false m e)) ∙ swap false m e ∙ z)
        ∙ sym (plain_back (degree_float 0 (fin false m e)) (degree_fits 0 (fin false m e))) ∙ ap (λ (y : Float). plain (neg y)) (sym (above_is m e z))

pub cosine_back : (s : Bool) (m : ℕ) (e : ℤ) → cosine_degrees (neg (fin s m e)) ≡ cosine_degrees (fin s m e)
cosine_back s m e = go s (split (eq (fin s m e) plus_zero))
  where
    go : (s : Bool) → (eq (fin s m e) plus_zero ≡ true) ⊎ (eq (fin s m e) plus_zero ≡ false) → cosine_degrees (neg (fin s m e)) ≡ cosine_degrees (fin s m e)
    go s (inl z) = zero_cosine (neg (fin s m e)) (swap s m e ∙ z) ∙ sym (zero_cosine (fin s m e) z)
    go true (inr z) = ap cosine_degrees (neg_true m e) ∙ cosine_above m e (ap (λ (y : Float). eq y plus_zero) (sym (neg_true m e)) ∙ swap true m e ∙ z) ∙ sym (cosine_under m e z)
    go false (inr z) = ap cosine_degrees (neg_false m e) ∙ cosine_under m e (ap (λ (y : Float). eq y plus_zero) (sym (neg_false m e)) ∙ swap false m e ∙ z) ∙ sym (cosine_above m e z)

-- ---- of every float, in range or not
turnable_back : (x : Float) → turnable (neg x) ≡ turnable x
unfolding turnable
turnable_back x = ap (λ (b : Bool). cond b (le (neg widest) (neg x)) false) high ∙ ap (λ (b : Bool). cond (le (neg widest) x) b false) (neg_le x widest) ∙ either (le (neg widest) x) (le x widest)
  where
    high : le (neg x) widest ≡ le (neg widest) x
    high = ap (λ (w : Float). le (neg x) w) (sym (neg_neg widest)) ∙ neg_le (neg widest) x

    either : (a b : Bool) → cond a b false ≡ cond b a false
    either true true = refl
    either true false = refl
    either false true = refl
    either false false = refl

both_back : (x : Float) → turnable x ≡ true → (sine_degrees (neg x) ≡ plain (neg (sine_degrees x))) × (cosine_degrees (neg x) ≡ cosine_degrees x)
unfolding turnable
both_back nan h = absurd (true≢false (sym (unfold le in h)))
both_back (inf true) h = absurd (true≢false (sym (unfold le neg of_bits in h)))
both_back (inf false) h = absurd (true≢false (sym (unfold le of_bits in h)))
both_back (fin s m e) h = (sine_back s m e, cosine_back s m e)

pub pair_back : (x : Float) → degree_pair (neg x) ≡ opposite (degree_pair x)
unfolding degree_pair
pair_back x = ap (λ (b : Bool). answer b (neg x)) (turnable_back x) ∙ go (turnable x) (both_back x)
  where
    answer : Bool → Float → Option Pair
    answer b y = cond b (Some (record { sine = sine_degrees y; cosine = cosine_degrees y })) None

    go : (b : Bool) → (b ≡ true → (sine_degrees (neg x) ≡ plain (neg (sine_degrees x))) × (cosine_degrees (neg x) ≡ cosine_degrees x)) → answer b (neg x) ≡ opposite (answer b x)
    go true f = let e = f refl in ap (λ (y : Float). Some (record { sine = y; cosine = cosine_degrees (neg x) })) e.0 ∙ ap (λ (y : Float). Some (record { sine = plain (neg (sine_degrees x)); cosine = y })) e.1
    go false f = refl
