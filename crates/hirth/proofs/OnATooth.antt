-- The turn by an angle that stands on a tooth, h half degrees from zero: the table's pair at h, the turn back where it is below zero.
use Rattle.std.proofs.Common.{◌≡◌, ℕ, ◌*◌, ◌/◌, ◌<◌, ◌≤◌, min, Bool, true, false, cond, ◌&&◌, ◌||◌, T, eqb, ltb, ◌⊎◌, ℤ, sym, refl, ap, ◌∙◌, subst, inl, inr, eq-or-lt_of_le, mul-div_cancel, arith, lt-ltb, eq-eqb}
use native.Mathlib.Nat.{eq_of_mul-eq-mul_right}
use lib.Ieee.{Float, nan, inf, fin, binary64, up, down, mul, lt, le, eq, of_bits, to_unsigned, fits}
use lib.Ieee.Exact.{HasValue}
use lib.Ieee.Fits.{down_pos, add-fits, neg-fits}
use Rattle.float.specs.Helpers.{nought, size_of}
use Rattle.trig.specs.Fraction.{negated, Near}
use Rattle.trig.specs.Degrees.{degree_wave}
use Rattle.trig.proofs.WaveSteps.{lt_pos, lt_neg}
use Rattle.trig.proofs.WaveError.{near_neg}
use Rattle.trig.proofs.DegreeZeros.{plain_near}
use Rattle.geometry.specs.declared.Turn.{Turn}
use Rattle.chain.specs.Check.{within}
use Rattle.hirth.specs.Snapping.{two, snapped, sign_at}
use Rattle.hirth.specs.Turning.{most_halves, halves, half_turns, toward, tooth_turn}
use Rattle.hirth.proofs.HalfDegree.{nearest_halves, few_halves, doubled, snapped_is}
use Rattle.hirth.proofs.Placing.{half_turns_near}
use Rattle.hirth.proofs.ToothBack.{sine_fits, cosine_fits}

-- ---- twice the angle is h
count : (M D h : ℕ) → 0 < D → h ≤ 90000 → M ≡ h * D → min (M / D) 18446744073709551615 ≡ h
count M D h p l e =
    let q : M / D ≡ h = ap (λ (x : ℕ). x / D) e ∙ mul-div_cancel h p in
    rw q (omega arith)

size_count : (z : Float) (t : Bool) (h : ℕ) → h ≤ 90000 → HasValue z t h 1 → to_unsigned 64 (size_of z) ≡ h
unfolding to_unsigned size_of
size_count nan t h l v = absurd v
size_count (inf s) t h l v = absurd v
size_count (fin s m e) t h l v = count (m * up e) (down e) h (down_pos e) l (go (m * up e) v.1)
  where
    go : (a : ℕ) → a * 1 ≡ h * down e → a ≡ h * down e
    go a q = omega (arith, q)

most_le : (a b : ℕ) (s : Bool) → a ≤ b → s ≡ true → (ltb a b || (eqb a b && s)) ≡ true
most_le a b s l e = go (eq-or-lt_of_le l)
  where
    or_true : (x : Bool) → (x || true) ≡ true
    or_true true = refl
    or_true false = refl

    go : (a ≡ b) ⊎ (a < b) → (ltb a b || (eqb a b && s)) ≡ true
    go (inl q) = rw (eq-eqb a b q, e) (or_true (ltb a b))
    go (inr q) = rw (lt-ltb a b q)

size_most : (z : Float) (t : Bool) (h : ℕ) → h ≤ 90000 → HasValue z t h 1 → within z most_halves ≡ true
unfolding within size_of le lt eq of_bits
size_most nan t h l v = absurd v
size_most (inf s) t h l v = absurd v
size_most (fin s m e) t h l v = most_le (m * up e * 1) (90000 * down e) _ (go (m * up e * 1) (down e) v.1) refl
  where
    go : (a d : ℕ) → a ≡ h * d → a ≤ 90000 * d
    go a d q = rw q (native.Mathlib.Nat.mul-le-mul_right d l)

-- ---- the angle y, h half degrees from zero
module _ (t : Bool) (m : ℕ) (e : ℤ) (f : T (fits binary64 (fin t m e))) (h : ℕ) (l : h ≤ 90000) (v : m * up e * 2 ≡ h * down e) where
  small : m * up e ≤ 45000 * down e
  small = go (m * up e) (down e) v
    where
      go : (a d : ℕ) → a * 2 ≡ h * d → a ≤ 45000 * d
      go a d q = half a (h * d) d q (native.Mathlib.Nat.mul-le-mul_right d l)
        where
          half : (a b d : ℕ) → a * 2 ≡ b → b ≤ 90000 * d → a ≤ 45000 * d
          half a b d p q = omega arith

  over_one : (z : Float) → HasValue z t (2 * (m * up e)) (down e) → HasValue z t h 1
  over_one nan w = w
  over_one (inf s) w = w
  over_one (fin s n d) w = (w.0, eq_of_mul-eq-mul_right (down e) (down_pos e) (n * up d * 1) (h * down d) (go (n * up d) (m * up e) (down d) (down e) w.1 v))
    where
      go : (x a c d : ℕ) → x * d ≡ 2 * a * c → a * 2 ≡ h * d → x * 1 * d ≡ h * c * d
      go x a c d p q = sum (ap (λ (z : ℕ). z * c) q)
        where
          sum : a * 2 * c ≡ h * d * c → x * 1 * d ≡ h * c * d
          sum r = omega arith

  twice : HasValue (mul binary64 (fin t m e) two) t h 1
  twice = over_one (mul binary64 (fin t m e) two) (doubled t m e f small)

  pub halves_is : halves (fin t m e) ≡ h
  unfolding halves
  halves_is = size_count (mul binary64 (fin t m e) two) t h l twice

  turn_by : eq (fin t m e) nought ≡ false → lt (fin t m e) nought ≡ t → tooth_turn (fin t m e) ≡ toward (half_turns h) t
  unfolding tooth_turn
  turn_by z s = rw (z, size_most (mul binary64 (fin t m e) two) t h l twice, s, halves_is)

  below_nought : (t : Bool) → eq (fin t m e) nought ≡ false → lt (fin t m e) nought ≡ t
  below_nought true z = lt_neg m e z
  below_nought false z = lt_pos m e

  pub on_a_tooth : eq (fin t m e) nought ≡ false → tooth_turn (fin t m e) ≡ toward (half_turns h) t
  on_a_tooth z = turn_by z (below_nought t z)

-- ---- the snapped angle stands on a tooth
by_value : (y : Float) (t : Bool) (h : ℕ) → T (fits binary64 y) → h ≤ 90000 → HasValue y t h 2 → eq y nought ≡ false → tooth_turn y ≡ toward (half_turns h) t
by_value nan t h f l v z = absurd v
by_value (inf s) t h f l v z = absurd v
by_value (fin s m e) t h f l v z = on_a_tooth s m e f h l v.1 z ∙ ap (toward (half_turns h)) v.0

snapped_fits : (x : Float) → T (fits binary64 (snapped x))
unfolding snapped
snapped_fits x = add-fits binary64 _ _

pub snapped_turn : (s : Bool) (m : ℕ) (e : ℤ) → T (fits binary64 (fin s m e)) → m * up e ≤ 45000 * down e → eq (snapped (fin s m e)) nought ≡ false
    → tooth_turn (snapped (fin s m e)) ≡ toward (half_turns (nearest_halves (m * up e) (down e))) (sign_at s (nearest_halves (m * up e) (down e)))
snapped_turn s m e f h z =
    by_value (snapped (fin s m e)) (sign_at s (nearest_halves (m * up e) (down e))) (nearest_halves (m * up e) (down e)) (snapped_fits (fin s m e)) (few_halves (m * up e) (down e) (down_pos e) h) (snapped_is s m e f h) z

-- ---- its sine and cosine are right
pub record TurnRight (h : ℕ) (below : Bool) (t : Turn) : Type 0 where
  pub sine_near : Near 53 t.sine (cond below (negated (degree_wave false 0 h 2)) (degree_wave false 0 h 2))
  pub cosine_near : Near 53 t.cosine (degree_wave false 1 h 2)

toward_right : (h : ℕ) (below : Bool) → TurnRight h below (toward (half_turns h) below)
unfolding toward
toward_right h true =
    let n = half_turns_near h in
    record {
      sine_near = plain_near 53 _ _ (neg-fits binary64 _ (sine_fits h)) (near_neg 53 _ _ n.0);
      cosine_near = plain_near 53 _ _ (cosine_fits h) n.1;
    }
toward_right h false =
    let n = half_turns_near h in
    record { sine_near = plain_near 53 _ _ (sine_fits h) n.0; cosine_near = plain_near 53 _ _ (cosine_fits h) n.1 }

pub snapped_right : (s : Bool) (m : ℕ) (e : ℤ) → T (fits binary64 (fin s m e)) → m * up e ≤ 45000 * down e → eq (snapped (fin s m e)) nought ≡ false
    → TurnRight (nearest_halves (m * up e) (down e)) (sign_at s (nearest_halves (m * up e) (down e))) (tooth_turn (snapped (fin s m e)))
snapped_right s m e f l z =
    subst (TurnRight (nearest_halves (m * up e) (down e)) (sign_at s (nearest_halves (m * up e) (down e)))) (sym (snapped_turn s m e f l z))
    (toward_right (nearest_halves (m * up e) (down e)) (sign_at s (nearest_halves (m * up e) (down e))))
