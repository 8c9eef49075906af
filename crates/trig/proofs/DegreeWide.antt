-- Of the sine and the cosine of degrees one is at least 0.6 in size, for every float x (`pair_wide`): the larger is a
-- C(r) with r of at most 0.79, and that is at least 1 - r² / 2. Assumes nothing.
use Rattle.std.proofs.Common.{◌≡◌, ℕ, zero, suc, ◌+◌, ◌-◌, ◌*◌, ◌%◌, ◌^◌, ◌<◌, ◌≤◌, Bool, true, false, cond, T, ◌⊎◌, ℤ, sym, refl, ap, subst, inl, inr, true≢false, mul-le-mul_right, mul-le-mul, mul-pos, le_of_mul-le-mul_right, arith, lit≤}
use lib.Ieee.{Float, nan, inf, fin, binary64, up, down, neg, add, of_bits, le, lt, eq, fits}
use lib.Ieee.Fits.{down_pos, neg-fits}
use lib.Ieee.Positive.{num as top, den as bot}
use Rattle.std.specs.Prelude.{None, Option, Some}
use Rattle.float.specs.Units.{U, Is}
use Rattle.float.proofs.Rounding.{W, U-is, U_pos, Rounded}
use Rattle.trig.specs.declared.Pair.{Pair}
use Rattle.trig.specs.Kernel.{plus_zero, one, cosine_kernel}
use Rattle.trig.specs.Waves.{placed}
use Rattle.trig.specs.Degrees.{plain, turnable}
use Rattle.trig.specs.DegreeSteps.{degree_k, degree_below, degree_rest, degree_float, sine_degrees, cosine_degrees, degree_pair}
use Rattle.trig.proofs.Choices.{chosen}
use Rattle.trig.proofs.HornerForm.{num, den, num_le, den_pos}
use Rattle.trig.proofs.KernelError.{cos_near}
use Rattle.trig.proofs.WaveError.{quarters}
use Rattle.trig.proofs.WaveSteps.{lt_pos, lt_neg}
use Rattle.trig.proofs.DegreeZeros.{degree_fits, plain_same}
use Rattle.trig.proofs.DegreeSizes.{Narrow, rest_narrow, exact}

-- |y| is at least 0.6
abbrev pub Wide : Float → Type 0
Wide y = 3 * bot y ≤ 5 * top y

-- ---- C(r): num / den is at least 1 - r² / 2
num_least : (r u N D : ℕ) → 100 * r ≤ 79 * u → N ≤ D → 2 * (1 * 2 * (u * u) * D) ≤ 3 * (1 * 2 * (u * u) * D - r * r * N)
num_least r u N D h l = go (1 * 2 * (u * u) * D - r * r * N) (split (1 * 2 * (u * u) * D) (r * r * N)) (mul-le-mul (mul-le-mul h h) l)
  where
    split : (a b : ℕ) → a ≤ b + (a - b)
    split a b = omega arith

    go : (k : ℕ) → 1 * 2 * (u * u) * D ≤ r * r * N + k → 100 * r * (100 * r) * N ≤ 79 * u * (79 * u) * D → 2 * (1 * 2 * (u * u) * D) ≤ 3 * k
    go k a b = omega arith

module _ (r : Float) (n : Narrow r) where
  least : 2 * den (U * U) 12 1 ≤ 3 * num (n.0 * n.0) (U * U) 12 1
  unfolding num den
  least = num_least n.0 U _ _ n.2 (num_le (n.0 * n.0) (U * U) 11 3)

  near : Rounded (cosine_kernel r) false (num (n.0 * n.0) (U * U) 12 1 * U) (den (U * U) 12 1) (128 * W)
  near = cos_near r n.0 n.0 U U_pos n.2 n.1 (exact r n.0 n.1 n.2)

  units : 3 * U ≤ 5 * near.v
  units = le_of_mul-le-mul_right {k = den (U * U) 12 1} (go U W (num (n.0 * n.0) (U * U) 12 1) (den (U * U) 12 1) near.v U-is least near.near.1) (den_pos (U * U) 12 1 (mul-pos U_pos U_pos) (lit≤ tt))
    where
      go : (u w N D v : ℕ) → u ≡ 2 ^ 57 * w → 2 * D ≤ 3 * N → N * u ≤ v * D + 128 * w * D → 3 * u * D ≤ 5 * v * D
      go u w N D v e h l = sum (mul-le-mul_right u h) (ap (λ (z : ℕ). z * D) e)
        where
          sum : 2 * D * u ≤ 3 * N * u → u * D ≡ 2 ^ 57 * w * D → 3 * u * D ≤ 5 * v * D
          sum x y = omega arith

  pub cosine_wide : Wide (cosine_kernel r)
  cosine_wide = of_units (cosine_kernel r) near.v near.is units
    where
      of_units : (y : Float) (v : ℕ) → Is y false v → 3 * U ≤ 5 * v → Wide y
      of_units nan v i h = absurd i
      of_units (inf s) v i h = absurd i
      of_units (fin s m e) v i h = le_of_mul-le-mul_right {k = U} (at (m * up e) (down e) v U i.1 (mul-le-mul_right (down e) h)) U_pos
        where
          at : (a d v u : ℕ) → a * u ≡ v * d → 3 * u * d ≤ 5 * v * d → 3 * d * u ≤ 5 * a * u
          at a d v u p q = omega arith

-- ---- a sign, and a zero that becomes +0.0
wide_neg : (y : Float) → Wide y → Wide (neg y)
unfolding neg
wide_neg nan h = h
wide_neg (inf s) h = h
wide_neg (fin true m e) h = h
wide_neg (fin false m e) h = h

wide_plain : (y : Float) → T (fits binary64 y) → Wide y → Wide (plain y)
wide_plain nan f h = unfold add in h
wide_plain (inf s) f h = unfold add of_bits in h
wide_plain (fin s zero e) f h = absurd (none (up e) (down e) (down_pos e) h)
  where
    none : (a d : ℕ) → 0 < d → 3 * d ≤ 5 * (0 * a) → ⊥
    none a d p h = omega arith
wide_plain (fin s (suc m) e) f h = subst Wide (sym (plain_same s m e f)) h

-- ---- one of the two
abbrev One : Float → Float → Type 0
One s c = Wide s ⊎ Wide c

placed_wide : (k : ℕ) (b : Bool) (s c : Float) → Wide c → One (placed ((k + 0) % 4) b s c) (placed ((k + 1) % 4) b s c)
placed_wide k b s c h = elim (quarters k) [
  | inl e ↦ inr (subst (λ (q : ℕ). Wide (placed q b s c)) (sym (next k 0 e)) h)
  | inr (inl e) ↦ inl (subst (λ (q : ℕ). Wide (placed q b s c)) (sym (same k 1 e)) h)
  | inr (inr (inl e)) ↦ inr (subst (λ (q : ℕ). Wide (placed q b s c)) (sym (next k 2 e)) (wide_neg c h))
  | inr (inr (inr e)) ↦ inl (subst (λ (q : ℕ). Wide (placed q b s c)) (sym (same k 3 e)) (wide_neg c h))
]
  where
    same : (k r : ℕ) → k % 4 ≡ r → (k + 0) % 4 ≡ r
    same k r e = omega arith

    next : (k r : ℕ) → k % 4 ≡ r → (k + 1) % 4 ≡ (r + 1) % 4
    next k r e = omega arith

degree_wide : (m : ℕ) (e : ℤ) → One (degree_float 0 (fin false m e)) (degree_float 1 (fin false m e))
unfolding degree_float
degree_wide m e = placed_wide (degree_k (fin false m e)) (degree_below (fin false m e)) _ _ (cosine_wide (degree_rest (fin false m e)) (rest_narrow m e))

either : (a : Float) (s : Float) → T (fits binary64 s) → (Wide (degree_float 0 a) → Wide s) → One (degree_float 0 a) (degree_float 1 a) → One (plain s) (plain (degree_float 1 a))
either a s f g (inl h) = inl (wide_plain s f (g h))
either a s f g (inr h) = inr (wide_plain (degree_float 1 a) (degree_fits 1 a) h)

sides : (x : Float) (b : Bool) → One (degree_float 0 (cond b (neg x) x)) (degree_float 1 (cond b (neg x) x))
    → One (plain (cond b (neg (degree_float 0 (neg x))) (degree_float 0 x))) (plain (cond b (degree_float 1 (neg x)) (degree_float 1 x)))
sides x true h = either (neg x) (neg (degree_float 0 (neg x))) (neg-fits binary64 _ (degree_fits 0 (neg x))) (λ w. wide_neg (degree_float 0 (neg x)) w) h
sides x false h = either x (degree_float 0 x) (degree_fits 0 x) (λ w. w) h

signed_wide : (x : Float) → turnable x ≡ true → eq x plus_zero ≡ false → One (degree_float 0 (cond (lt x plus_zero) (neg x) x)) (degree_float 1 (cond (lt x plus_zero) (neg x) x))
unfolding turnable neg
signed_wide nan h z = absurd (true≢false (sym (unfold le in h)))
signed_wide (inf true) h z = absurd (true≢false (sym (unfold le of_bits neg in h)))
signed_wide (inf false) h z = absurd (true≢false (sym (unfold le of_bits in h)))
signed_wide (fin true m e) h z = subst (λ (b : Bool). One (degree_float 0 (cond b (fin false m e) (fin true m e))) (degree_float 1 (cond b (fin false m e) (fin true m e)))) (sym (lt_neg m e z)) (degree_wide m e)
signed_wide (fin false m e) h z = subst (λ (b : Bool). One (degree_float 0 (cond b (fin true m e) (fin false m e))) (degree_float 1 (cond b (fin true m e) (fin false m e)))) (sym (lt_pos m e)) (degree_wide m e)

pub one_wide : Wide one
unfolding of_bits
one_wide = lit≤ tt

both_wide : (x : Float) → turnable x ≡ true → One (sine_degrees x) (cosine_degrees x)
unfolding sine_degrees cosine_degrees
both_wide x h = go (eq x plus_zero) _ _ (λ z. sides x (lt x plus_zero) (signed_wide x h z))
  where
    go : (b : Bool) (s c : Float) → (b ≡ false → One s c) → One (cond b plus_zero s) (cond b one c)
    go true s c f = inr one_wide
    go false s c f = f refl

-- ---- the law
abbrev pub WidePair : Option Pair → Type 0
WidePair (Some p) = Wide p.sine ⊎ Wide p.cosine
WidePair None = Unit {0}

pub pair_wide : (x : Float) → WidePair (degree_pair x)
unfolding degree_pair
pair_wide x = chosen WidePair (turnable x) _ _ (λ h. both_wide x h) (λ h. tt)
