-- What `sine`, `cosine` and `sine_cosine` answer is right, for every x. Assumes nothing.
use Rattle.std.proofs.Common.{◌≡◌, ℕ, ◌*◌, Bool, true, false, cond, ◌&&◌, ◌||◌, T, eqb, sym, refl, ap, ◌∙◌, subst, true≢false, arith}
use lib.Ieee.{Float, nan, inf, fin, binary64, up, down, neg, of_bits, le, eq, fits}
use lib.Ieee.Positive.{num as top}
use Rattle.std.specs.Prelude.{None, Option, Some}
use Rattle.float.proofs.Order.{neg_le, neg_neg}
use Rattle.trig.specs.Fraction.{Frac, Near}
use Rattle.trig.specs.Angle.{sine, cosine}
use Rattle.trig.specs.Kernel.{plus_zero}
use lib.Ieee.Scale.{finite}
use Rattle.trig.specs.Waves.{sine_float, cosine_float, most, served, sine_of, cosine_of, paired, SineValue, CosineValue, SineAnswer, CosineAnswer, PairRight}
use Rattle.trig.specs.declared.Pair.{Pair}
use Rattle.trig.proofs.Choices.{pick, drop, chosen}
use Rattle.trig.proofs.WaveError.{sine_near, cosine_near, sine_sized, cosine_sized}
use Rattle.trig.proofs.WaveSteps.{sine_is_zero, cosine_is_zero, sine_odd_finite, cosine_even_finite}

near_finite : (h : ℕ) (y : Float) (f : Frac) → Near h y f → finite y ≡ true
near_finite h nan f n = absurd n
near_finite h (inf s) f n = absurd n
near_finite h (fin s m e) f n = refl

-- what is served is finite
pub served_finite : (x : Float) → served x ≡ true → finite x ≡ true
unfolding served le of_bits neg
served_finite nan h = absurd (true≢false (sym h))
served_finite (inf true) h = absurd (true≢false (sym h))
served_finite (inf false) h = absurd (true≢false (sym h))
served_finite (fin s m e) h = refl

-- a finite number without digits is a zero to the test
pub zero_test : (x : Float) → finite x ≡ true → top x ≡ 0 → eq x plus_zero ≡ true
unfolding eq of_bits
zero_test nan f z = absurd (true≢false (sym f))
zero_test (inf s) f z = absurd (true≢false (sym f))
zero_test (fin s m e) f z = go s (m * up e * 1) (0 * 1 * down e) (one_times (m * up e) z) (none (down e))
  where
    one_times : (a : ℕ) → a ≡ 0 → 0 ≡ a * 1
    one_times a e = omega arith

    none : (d : ℕ) → 0 ≡ 0 * 1 * d
    none d = omega arith

    go : (s : Bool) (a b : ℕ) → 0 ≡ a → 0 ≡ b → (eqb a b && (mathlib.Core.Bool.beq s false || eqb a 0)) ≡ true
    go true a b p q = subst (λ (x : ℕ). (eqb x b && (false || eqb x 0)) ≡ true) p (subst (λ (y : ℕ). (eqb 0 y && (false || eqb 0 0)) ≡ true) q refl)
    go false a b p q = subst (λ (x : ℕ). (eqb x b && (true || eqb x 0)) ≡ true) p (subst (λ (y : ℕ). (eqb 0 y && (true || eqb 0 0)) ≡ true) q refl)

-- ---- the negated argument
pub served_even : (x : Float) → served (neg x) ≡ served x
unfolding served
served_even x = go (le (neg x) most) (le (neg most) (neg x)) (le x most) (le (neg most) x) (turned ∙ neg_le (neg most) x) (neg_le x most)
  where
    turned : le (neg x) most ≡ le (neg x) (neg (neg most))
    turned = ap (λ (z : Float). le (neg x) z) (sym (neg_neg most))

    go : (a b c d : Bool) → a ≡ d → b ≡ c → cond a b false ≡ cond c d false
    go a b c d p q = ap (λ (z : Bool). cond z b false) p ∙ ap (λ (z : Bool). cond d z false) q ∙ turn d c
      where
        turn : (u v : Bool) → cond u v false ≡ cond v u false
        turn true true = refl
        turn true false = refl
        turn false true = refl
        turn false false = refl

pub sine_float_odd : (x : Float) → served x ≡ true → sine_float (neg x) ≡ neg (sine_float x)
sine_float_odd nan h = absurd (true≢false (sym (served_finite nan h)))
sine_float_odd (inf s) h = absurd (true≢false (sym (served_finite (inf s) h)))
sine_float_odd (fin s m e) h = sine_odd_finite s m e

pub cosine_float_even : (x : Float) → served x ≡ true → cosine_float (neg x) ≡ cosine_float x
cosine_float_even nan h = absurd (true≢false (sym (served_finite nan h)))
cosine_float_even (inf s) h = absurd (true≢false (sym (served_finite (inf s) h)))
cosine_float_even (fin s m e) h = cosine_even_finite s m e

-- ---- what is answered
module _ (x : Float) where
  pub sine_served : served x ≡ true → Some (sine_float x) ≡ sine_of x
  unfolding sine_of
  sine_served h = pick (served x) _ _ h

  pub sine_refused : served x ≡ false → None ≡ sine_of x
  unfolding sine_of
  sine_refused h = drop (served x) _ _ h

  pub cosine_served : served x ≡ true → Some (cosine_float x) ≡ cosine_of x
  unfolding cosine_of
  cosine_served h = pick (served x) _ _ h

  pub cosine_refused : served x ≡ false → None ≡ cosine_of x
  unfolding cosine_of
  cosine_refused h = drop (served x) _ _ h

  pub pair_served : (p : Pair) → served x ≡ true → p.sine ≡ sine_float x → p.cosine ≡ cosine_float x → Some p ≡ paired (sine_of x) (cosine_of x)
  pair_served p h s c =
      ap (λ (y : Float). Some (record { sine = y; cosine = p.cosine })) s
      ∙ ap (λ (y : Float). Some (record { sine = sine_float x; cosine = y })) c
      ∙ ap (λ (a : Option Float). paired a (Some (cosine_float x))) (sine_served h)
      ∙ ap (λ (a : Option Float). paired (sine_of x) a) (cosine_served h)

  pub pair_refused : served x ≡ false → None ≡ paired (sine_of x) (cosine_of x)
  pair_refused h = ap (λ (a : Option Float). paired a (cosine_of x)) (sine_refused h)

-- ---- and is right
module _ (x : Float) (f : T (fits binary64 x)) (h : served x ≡ true) where
  pub sine_value : SineValue x (sine_float x)
  sine_value =
      let n = sine_near x f h in
      record { near = n; is_finite = near_finite 50 (sine_float x) (sine x) n; size = sine_sized x f h; zeros = λ z. sym (sine_is_zero x (zero_test x (served_finite x h) z)); odd = sym (sine_served (neg x) (served_even x ∙ h)) ∙ ap Some (sine_float_odd x h) }

  pub cosine_value : CosineValue x (cosine_float x)
  cosine_value =
      let n = cosine_near x f h in
      record { near = n; is_finite = near_finite 50 (cosine_float x) (cosine x) n; size = cosine_sized x f h; zeros = λ z. sym (cosine_is_zero x (zero_test x (served_finite x h) z)); even = sym (cosine_served (neg x) (served_even x ∙ h)) ∙ ap Some (cosine_float_even x h) }

module _ (x : Float) (f : T (fits binary64 x)) where
  pub sine_answer : SineAnswer x (sine_of x)
  unfolding sine_of
  sine_answer = chosen (SineAnswer x) (served x) _ _ (λ h. (h, sine_value x f h)) (λ h. h)

  pub cosine_answer : CosineAnswer x (cosine_of x)
  unfolding cosine_of
  cosine_answer = chosen (CosineAnswer x) (served x) _ _ (λ h. (h, cosine_value x f h)) (λ h. h)

  pub pair_answer : PairRight x (paired (sine_of x) (cosine_of x))
  unfolding sine_of cosine_of
  pair_answer = go (served x) (λ h. (h, sine_value x f h, cosine_value x f h)) (λ h. h)
    where
      go : (b : Bool) → (b ≡ true → (served x ≡ true) × SineValue x (sine_float x) × CosineValue x (cosine_float x)) → (b ≡ false → served x ≡ false)
          → PairRight x (paired (cond b (Some (sine_float x)) None) (cond b (Some (cosine_float x)) None))
      go true y n = y refl
      go false y n = n refl
