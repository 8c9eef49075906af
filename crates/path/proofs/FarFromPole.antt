-- Where the cosine c is at most 63 / 64 in size and (1 - c) (1 + c) at least 127 / 4096, the arccosine is at least 715 / 4096, a little over 10 degrees. For were the angle r smaller, then
-- S(r) ≤ r and 1 - r² / 2 ≤ C(r) would leave y C(r) - c S(r) far from zero, for the root y is at least 721 / 4096; and the arccosine's promise is that it is next to zero.
use mathlib.Core.Path.{◌≡◌, refl, ap, ◌∙◌, subst}
use mathlib.Core.Bool.{Bool, true, false, cond, ◌&&◌, true≢false, false≢true}
use Prim.Native.Nat.{ℕ, ◌+◌, ◌-◌, ◌*◌, ◌%◌, ◌^◌, ◌≤◌, ◌<◌}
use native.Mathlib.Nat.{le_trans, mul-le-mul, mul-le-mul_right, le_of_mul-le-mul_right, mul-pos, mul-lt-mul_of_pos_right, div-eq_of_lt}
use native.Mathlib.Omega.{arith}
use borrow.Author.Tests.{le-ltb}
use lib.Dec.{T, ltb, leb, lit≤, lit<}
use lib.IntN.{ℤ, negsuc}
use lib.Ieee.{Float, nan, inf, fin, binary64, up, down, round, add, sub, mul, neg, of_bits, le, lt, eq, is_nan, fits}
use lib.Ieee.Fits.{down_pos, neg-fits, add-fits, mul-fits}
use lib.Ieee.Bits.{of_bits-fits}
use lib.Ieee.Scale.{finite}
use lib.Ieee.Positive.{num as top}
use Rattle.std.specs.Prelude.{None, Option, Some}
use Rattle.float.specs.Helpers.{nought, one, negative, size_of, clamp_unit, minimum, to_degrees}
use Rattle.root.specs.Root.{root}
use lib.Ieee.Order.{round_mono}
use Rattle.float.proofs.Bounded.{clamp_fits}
use Rattle.float.proofs.Commute.{mul_commutes}
use Rattle.float.proofs.Order as order
use Rattle.float.proofs.Sizes.{size_neg}
use Rattle.geometry.specs.declared.Vec3.{Vec3}
use Rattle.geometry.specs.Vector.{dot}
use Rattle.geometry.specs.Slerp.{with, half_turn_degrees}
use Rattle.path.specs.declared.SingularFrame.{SingularFrame}
use Rattle.root.proofs.RootOrder.{root_mono}
use Rattle.trig.specs.Arccosine.{sine_of_cosine, cosine_range, arccosine_of, ArccosineValue, ArccosineAnswer}
use Rattle.trig.proofs.ArccosineLaws.{sine_sound, arccosine_answer}
use Rattle.path.specs.Singular.{ten_degrees, wide, least_square, well_outside, pole_clearance_deg, in_singular_cone}
use Rattle.trig.specs.Fraction.{Frac, product, difference, worth, Small}
use Rattle.trig.specs.Taylor.{sin_sum, cos_sum}
use Rattle.trig.specs.Angle.{pi_num, pi_den, nearest_k, under, gap, place, wave, sine, cosine}
use Rattle.trig.specs.Direction.{larger, residual, Toward}
use Rattle.trig.proofs.WaveError.{le_cross}
use Rattle.trig.proofs.HornerForm.{num, den, den_pos, num_le, sin_is, cos_is}

-- ---- whole numbers: y = p / q, |c| = k / l, C = N / D, S = M / F
-- the promise: a = p l F and b = k q D times the sums, and w = q l times both sides
cancelled : (a b cp cm sp sm N M E w : ℕ) → 0 < w → cp ≡ N + cm → sp ≡ M + sm → 2 ^ 46 * ((a * cp + b * sm) * w) ≤ 2 ^ 46 * ((a * cm + b * sp) * w) + E * w → 2 ^ 46 * (a * N) ≤ 2 ^ 46 * (b * M) + E
cancelled a b cp cm sp sm N M E w P e f h = signs (ap (λ (z : ℕ). a * z) e) (ap (λ (z : ℕ). b * z) f) (le_of_mul-le-mul_right {k = w} (grouped (a * cp + b * sm) (a * cm + b * sp) h) P)
  where
    grouped : (x y : ℕ) → 2 ^ 46 * (x * w) ≤ 2 ^ 46 * (y * w) + E * w → 2 ^ 46 * x * w ≤ (2 ^ 46 * y + E) * w
    grouped x y l = omega arith

    signs : a * cp ≡ a * (N + cm) → b * sp ≡ b * (M + sm) → 2 ^ 46 * (a * cp + b * sm) ≤ 2 ^ 46 * (a * cm + b * sp) + E → 2 ^ 46 * (a * N) ≤ 2 ^ 46 * (b * M) + E
    signs x y l = omega arith

regrouped : (p q k l N D M F L : ℕ) → L ≤ p * l + k * q → 2 ^ 46 * (p * (l * F) * N) ≤ 2 ^ 46 * (k * (q * D) * M) + L * (D * F) → 2 ^ 46 * (p * l * N * F) ≤ 2 ^ 46 * (k * q * M * D) + (p * l + k * q) * (D * F)
regrouped p q k l N D M F L m h = ordered (p * l * N * F) (p * (l * F) * N) (k * q * M * D) (k * (q * D) * M) (L * (D * F)) ((p * l + k * q) * (D * F)) (omega arith) (omega arith) (mul-le-mul_right (D * F) m) h
  where
    ordered : (x x' y y' a b : ℕ) → x ≡ x' → y ≡ y' → a ≤ b → 2 ^ 46 * x' ≤ 2 ^ 46 * y' + a → 2 ^ 46 * x ≤ 2 ^ 46 * y + b
    ordered x x' y y' a b e f n o = omega arith

shared : (L q D l F : ℕ) → L * (q * D * (l * F)) ≡ L * (D * F) * (q * l)
shared L q D l F = omega arith

promised : (p q k l N D M F cp cm sp sm L : ℕ) → 0 < q * l → cp ≡ N + cm → sp ≡ M + sm → L ≤ p * l + k * q
    → 2 ^ 46 * (((p * cp + 0 * cm) * (l * F) + (k * sm + 0 * sp) * (q * D)) * (q * l)) ≤ 2 ^ 46 * (((p * cm + 0 * cp) * (l * F) + (k * sp + 0 * sm) * (q * D)) * (q * l)) + L * (q * D * (l * F))
    → 2 ^ 46 * (p * l * N * F) ≤ 2 ^ 46 * (k * q * M * D) + (p * l + k * q) * (D * F)
promised p q k l N D M F cp cm sp sm L P e f m h =
    regrouped p q k l N D M F L m
    (cancelled (p * (l * F)) (k * (q * D)) cp cm sp sm N M (L * (D * F)) (q * l) P e f
    (subst (λ (z : ℕ). 2 ^ 46 * ((p * (l * F) * cp + k * (q * D) * sm) * (q * l)) ≤ 2 ^ 46 * ((p * (l * F) * cm + k * (q * D) * sp) * (q * l)) + z) (shared L q D l F)
    (subst (λ (z : ℕ). 2 ^ 46 * (z * (q * l)) ≤ 2 ^ 46 * ((p * (l * F) * cm + k * (q * D) * sp) * (q * l)) + L * (q * D * (l * F))) (plain p cp cm (l * F) k sm sp (q * D))
    (subst (λ (z : ℕ). 2 ^ 46 * (((p * cp + 0 * cm) * (l * F) + (k * sm + 0 * sp) * (q * D)) * (q * l)) ≤ 2 ^ 46 * (z * (q * l)) + L * (q * D * (l * F))) (plain p cm cp (l * F) k sp sm (q * D)) h))))
  where
    plain : (p a b x k c d y : ℕ) → (p * a + 0 * b) * x + (k * c + 0 * d) * y ≡ p * x * a + k * y * c
    plain p a b x k c d y = omega arith

-- a c below zero makes it only larger
promised_below : (p q k l N D M F cp cm sp sm L : ℕ) → 0 < q * l → cp ≡ N + cm → sp ≡ M + sm → L ≤ p * l + k * q
    → 2 ^ 46 * (((p * cp + 0 * cm) * (l * F) + (0 * sm + k * sp) * (q * D)) * (q * l)) ≤ 2 ^ 46 * (((p * cm + 0 * cp) * (l * F) + (0 * sp + k * sm) * (q * D)) * (q * l)) + L * (q * D * (l * F))
    → 2 ^ 46 * (p * l * N * F) ≤ 2 ^ 46 * (k * q * M * D) + (p * l + k * q) * (D * F)
promised_below p q k l N D M F cp cm sp sm L P e f m h =
    promised p q k l N D M F cp cm sp sm L P e f m
    (wider _ _ _ _ (L * (q * D * (l * F))) (mul-le-mul_right (q * l) (swapped p cp cm (l * F) k sm sp (q * D) below)) (mul-le-mul_right (q * l) (swapped' p cm cp (l * F) k sm sp (q * D) below)) h)
  where
    below : sm ≤ sp
    below = omega (arith, f)

    swapped : (p a b x k c d y : ℕ) → c ≤ d → (p * a + 0 * b) * x + (k * c + 0 * d) * y ≤ (p * a + 0 * b) * x + (0 * c + k * d) * y
    swapped p a b x k c d y o =
        let z : c * (k * y) ≤ d * (k * y) = mul-le-mul_right (k * y) o in
        omega arith

    swapped' : (p a b x k c d y : ℕ) → c ≤ d → (p * a + 0 * b) * x + (0 * d + k * c) * y ≤ (p * a + 0 * b) * x + (k * d + 0 * c) * y
    swapped' p a b x k c d y o =
        let z : c * (k * y) ≤ d * (k * y) = mul-le-mul_right (k * y) o in
        omega arith

    wider : (a b c d e : ℕ) → a ≤ b → c ≤ d → 2 ^ 46 * b ≤ 2 ^ 46 * c + e → 2 ^ 46 * a ≤ 2 ^ 46 * d + e
    wider a b c d e x y z = omega arith

-- 0.98476 X ≤ P, Q ≤ 0.17457 Z, 0.17602 T ≤ X, Z ≤ 0.98438 T
none_left : (P Q X Z T : ℕ) → 0 < T → 721 * T ≤ 4096 * X → 64 * Z ≤ 63 * T → 33043207 * X ≤ 33554432 * P → 4096 * Q ≤ 715 * Z → 2 ^ 46 * P ≤ 2 ^ 46 * Q + (X + Z) → ⊥
none_left P Q X Z T t a b c d e = omega arith

clash : (p q k l N D M F : ℕ) → 0 < q * l * (D * F) → 721 * q ≤ 4096 * p → 64 * k ≤ 63 * l → 33043207 * D ≤ 33554432 * N → 4096 * M ≤ 715 * F
    → 2 ^ 46 * (p * l * N * F) ≤ 2 ^ 46 * (k * q * M * D) + (p * l + k * q) * (D * F) → ⊥
clash p q k l N D M F T y c cn sn h =
    none_left (p * l * N * F) (k * q * M * D) (p * l * (D * F)) (k * q * (D * F)) (q * l * (D * F)) T
    (first (mul-le-mul_right (l * (D * F)) y)) (second (mul-le-mul_right (q * (D * F)) c)) (third (mul-le-mul_right (p * l * F) cn)) (fourth (mul-le-mul_right (k * q * D) sn)) fifth
  where
    first : 721 * q * (l * (D * F)) ≤ 4096 * p * (l * (D * F)) → 721 * (q * l * (D * F)) ≤ 4096 * (p * l * (D * F))
    first x = omega arith

    second : 64 * k * (q * (D * F)) ≤ 63 * l * (q * (D * F)) → 64 * (k * q * (D * F)) ≤ 63 * (q * l * (D * F))
    second x = omega arith

    third : 33043207 * D * (p * l * F) ≤ 33554432 * N * (p * l * F) → 33043207 * (p * l * (D * F)) ≤ 33554432 * (p * l * N * F)
    third x = omega arith

    fourth : 4096 * M * (k * q * D) ≤ 715 * F * (k * q * D) → 4096 * (k * q * M * D) ≤ 715 * (k * q * (D * F))
    fourth x = omega arith

    fifth : 2 ^ 46 * (p * l * N * F) ≤ 2 ^ 46 * (k * q * M * D) + (p * l * (D * F) + k * q * (D * F))
    fifth = omega arith

-- ---- the two sums at g / v, at most 715 / 4096
module _ (g v : ℕ) (h : 4096 * g ≤ 715 * v) where
  sine_most : 4096 * (g * num (g * g) (v * v) 12 2) ≤ 715 * (v * den (v * v) 12 2)
  sine_most = go (g * num (g * g) (v * v) 12 2) (g * den (v * v) 12 2) (v * den (v * v) 12 2) (least (num (g * g) (v * v) 12 2) (den (v * v) 12 2) (num_le (g * g) (v * v) 12 2)) (scaled (den (v * v) 12 2) (mul-le-mul_right (den (v * v) 12 2) h))
    where
      least : (n d : ℕ) → n ≤ d → g * n ≤ g * d
      least n d l = mul-le-mul (native.Mathlib.Nat.le_refl g) l

      scaled : (d : ℕ) → 4096 * g * d ≤ 715 * v * d → 4096 * (g * d) ≤ 715 * (v * d)
      scaled d l = omega arith

      go : (a b c : ℕ) → a ≤ b → 4096 * b ≤ 715 * c → 4096 * a ≤ 715 * c
      go a b c x y = omega arith

  cosine_least : 33043207 * den (v * v) 12 1 ≤ 33554432 * num (g * g) (v * v) 12 1
  unfolding num den
  cosine_least = go (g * g) (v * v) (num (g * g) (v * v) 11 3) (den (v * v) 11 3) (num_le (g * g) (v * v) 11 3) squares
    where
      squares : 16777216 * (g * g) ≤ 511225 * (v * v)
      squares = plain (mul-le-mul h h)
        where
          plain : 4096 * g * (4096 * g) ≤ 715 * v * (715 * v) → 16777216 * (g * g) ≤ 511225 * (v * v)
          plain l = omega arith

      go : (a b n d : ℕ) → n ≤ d → 16777216 * a ≤ 511225 * b → 33043207 * (1 * 2 * b * d) ≤ 33554432 * (1 * 2 * b * d - a * n)
      go a b n d l s =
          let x : a * n ≤ a * d = mul-le-mul (native.Mathlib.Nat.le_refl a) l in
          let y : 16777216 * a * d ≤ 511225 * b * d = mul-le-mul_right d s in
          omega arith

-- ---- 715 / 4096 is less than Pi / 4
below_quarter : 2860 * pi_den < pi_num * 4096
unfolding pi_num pi_den
below_quarter = lit< tt

-- ---- the waves there: k is 0, and the rest is the angle itself
module _ (a d : ℕ) (D+ : 0 < d) (h : 4096 * a ≤ 715 * d) where
  k_none : nearest_k a d ≡ 0
  unfolding nearest_k
  k_none = div-eq_of_lt (room pi_num pi_den (mul-le-mul_right (4 * pi_den) h) (mul-lt-mul_of_pos_right below_quarter D+))
    where
      room : (p q : ℕ) → 4096 * a * (4 * q) ≤ 715 * d * (4 * q) → 2860 * q * d < p * 4096 * d → 4 * a * q + p * d < 2 * p * d
      room p q x y = omega arith

  not_under : under a d 0 ≡ false
  not_under = ap (λ (z : ℕ). ltb (2 * a * pi_den) z) (none pi_num d) ∙ no (2 * a * pi_den)
    where
      none : (p d : ℕ) → 0 * p * d ≡ 0
      none p d = omega arith

      no : (x : ℕ) → ltb x 0 ≡ false
      no x = le-ltb x 0 (omega arith)

  sine_is : wave false 0 a d ≡ sin_sum (gap false a d 0) (2 * d * pi_den)
  unfolding wave
  sine_is =
      ap (λ (z : ℕ). place ((z + 0) % 4) (under a d z) (sin_sum (gap (under a d z) a d z) (2 * d * pi_den)) (cos_sum (gap (under a d z) a d z) (2 * d * pi_den))) k_none
      ∙ ap (λ (z : Bool). place 0 z (sin_sum (gap z a d 0) (2 * d * pi_den)) (cos_sum (gap z a d 0) (2 * d * pi_den))) not_under

  cosine_is : wave false 1 a d ≡ cos_sum (gap false a d 0) (2 * d * pi_den)
  unfolding wave
  cosine_is =
      ap (λ (z : ℕ). place ((z + 1) % 4) (under a d z) (sin_sum (gap (under a d z) a d z) (2 * d * pi_den)) (cos_sum (gap (under a d z) a d z) (2 * d * pi_den))) k_none
      ∙ ap (λ (z : Bool). place 1 z (sin_sum (gap z a d 0) (2 * d * pi_den)) (cos_sum (gap z a d 0) (2 * d * pi_den))) not_under

  rest_small : 4096 * gap false a d 0 ≤ 715 * (2 * d * pi_den)
  rest_small = go (0 * pi_num * d) pi_den (mul-le-mul_right (2 * pi_den) h)
    where
      go : (z q : ℕ) → 4096 * a * (2 * q) ≤ 715 * d * (2 * q) → 4096 * (2 * a * q - z) ≤ 715 * (2 * d * q)
      go z q l = omega arith

  rest_least : gap false a d 0 ≤ 2 * d * pi_den
  rest_least = go (gap false a d 0) (2 * d * pi_den) rest_small
    where
      go : (x y : ℕ) → 4096 * x ≤ 715 * y → x ≤ y
      go x y l = omega arith

-- ---- the promise of an arctangent, for an angle that is too small: y = p / q, c = k / l or -k / l, r = a / d
larger_most : (b : Bool) (x y : ℕ) → cond b y x ≤ x + y
larger_most true x y = omega arith
larger_most false x y = omega arith

abbrev cosine_over : ℕ → ℕ → Frac
cosine_over a d = cos_sum (gap false a d 0) (2 * d * pi_den)

abbrev sine_over : ℕ → ℕ → Frac
sine_over a d = sin_sum (gap false a d 0) (2 * d * pi_den)

module _ (p q k l a d L : ℕ) (Q+ : 0 < q) (L+ : 0 < l) (D+ : 0 < d) (y : 721 * q ≤ 4096 * p) (c : 64 * k ≤ 63 * l) (h : 4096 * a ≤ 715 * d) (m : L ≤ p * l + k * q) where
  v+ : 0 < 2 * d * pi_den
  v+ = mul-pos (mul-pos (lit< tt) D+) pi_den_some
    where
      pi_den_some : 0 < pi_den
      pi_den_some = unfold pi_den in lit< tt

  cos_parts : ((cosine_over a d).plus ≡ num (gap false a d 0 * gap false a d 0) (2 * d * pi_den * (2 * d * pi_den)) 12 1 + (cosine_over a d).minus) × (den (2 * d * pi_den * (2 * d * pi_den)) 12 1 ≡ (cosine_over a d).over)
  cos_parts = cos_is (gap false a d 0) (2 * d * pi_den) (rest_least a d D+ h)

  sin_parts : ((sine_over a d).plus ≡ gap false a d 0 * num (gap false a d 0 * gap false a d 0) (2 * d * pi_den * (2 * d * pi_den)) 12 2 + (sine_over a d).minus) × (2 * d * pi_den * den (2 * d * pi_den * (2 * d * pi_den)) 12 2 ≡ (sine_over a d).over)
  sin_parts = sin_is (gap false a d 0) (2 * d * pi_den) (rest_least a d D+ h)

  C+ : 0 < (cosine_over a d).over
  C+ = subst (λ (z : ℕ). 0 < z) cos_parts.1 (den_pos _ 12 1 (mul-pos v+ v+) (lit≤ tt))

  S+ : 0 < (sine_over a d).over
  S+ = subst (λ (z : ℕ). 0 < z) sin_parts.1 (mul-pos v+ (den_pos _ 12 2 (mul-pos v+ v+) (lit≤ tt)))

  cos_low : 33043207 * (cosine_over a d).over ≤ 33554432 * num (gap false a d 0 * gap false a d 0) (2 * d * pi_den * (2 * d * pi_den)) 12 1
  cos_low = subst (λ (z : ℕ). 33043207 * z ≤ 33554432 * num (gap false a d 0 * gap false a d 0) (2 * d * pi_den * (2 * d * pi_den)) 12 1) cos_parts.1 (cosine_least (gap false a d 0) (2 * d * pi_den) (rest_small a d D+ h))

  sin_high : 4096 * (gap false a d 0 * num (gap false a d 0 * gap false a d 0) (2 * d * pi_den * (2 * d * pi_den)) 12 2) ≤ 715 * (sine_over a d).over
  sin_high = subst (λ (z : ℕ). 4096 * (gap false a d 0 * num (gap false a d 0 * gap false a d 0) (2 * d * pi_den * (2 * d * pi_den)) 12 2) ≤ 715 * z) sin_parts.1 (sine_most (gap false a d 0) (2 * d * pi_den) (rest_small a d D+ h))

  clashes : 2 ^ 46 * (p * l * num (gap false a d 0 * gap false a d 0) (2 * d * pi_den * (2 * d * pi_den)) 12 1 * (sine_over a d).over) ≤ 2 ^ 46 * (k * q * (gap false a d 0 * num (gap false a d 0 * gap false a d 0) (2 * d * pi_den * (2 * d * pi_den)) 12 2) * (cosine_over a d).over) + (p * l + k * q) * ((cosine_over a d).over * (sine_over a d).over) → ⊥
  clashes = clash p q k l _ (cosine_over a d).over _ (sine_over a d).over (mul-pos (mul-pos Q+ L+) (mul-pos C+ S+)) y c cos_low sin_high

  too_small : Small (difference (product (record { plus = p; minus = 0; over = q }) (cosine_over a d)) (product (record { plus = k; minus = 0; over = l }) (sine_over a d))) L (q * l) → ⊥
  too_small t = clashes (promised p q k l _ (cosine_over a d).over _ (sine_over a d).over (cosine_over a d).plus (cosine_over a d).minus (sine_over a d).plus (sine_over a d).minus L (mul-pos Q+ L+) cos_parts.0 sin_parts.0 m t.above)

  too_small_below : Small (difference (product (record { plus = p; minus = 0; over = q }) (cosine_over a d)) (product (record { plus = 0; minus = k; over = l }) (sine_over a d))) L (q * l) → ⊥
  too_small_below t = clashes (promised_below p q k l _ (cosine_over a d).over _ (sine_over a d).over (cosine_over a d).plus (cosine_over a d).minus (sine_over a d).plus (sine_over a d).minus L (mul-pos Q+ L+) cos_parts.0 sin_parts.0 m t.above)

-- ---- in floats
abbrev least_root : Float
least_root = fin false 721 (negsuc 11)

abbrev pub least_angle : Float
least_angle = fin false 715 (negsuc 11)

module _ (m : ℕ) (e : ℤ) (n : ℕ) (f : ℤ) (a : ℕ) (d : ℤ) (y : T (le least_root (fin false m e))) (c : T (le (fin false n f) (fin false 63 (negsuc 5)))) (r : T (le (fin false a d) least_angle)) where
  y_least : 721 * down e ≤ 4096 * (m * up e)
  y_least = go (m * up e) (down e) (le_cross 721 (negsuc 11) m e y)
    where
      go : (x q : ℕ) → 721 * 1 * q ≤ x * 4096 → 721 * q ≤ 4096 * x
      go x q h = omega arith

  c_most : 64 * (n * up f) ≤ 63 * down f
  c_most = go (n * up f) (down f) (le_cross n f 63 (negsuc 5) c)
    where
      go : (x q : ℕ) → x * 64 ≤ 63 * 1 * q → 64 * x ≤ 63 * q
      go x q h = omega arith

  r_most : 4096 * (a * up d) ≤ 715 * down d
  r_most = go (a * up d) (down d) (le_cross a d 715 (negsuc 11) r)
    where
      go : (x q : ℕ) → x * 4096 ≤ 715 * 1 * q → 4096 * x ≤ 715 * q
      go x q h = omega arith

  waves : (t : Frac → Frac → Type 0) → t (cosine (fin false a d)) (sine (fin false a d)) → t (cosine_over (a * up d) (down d)) (sine_over (a * up d) (down d))
  waves t h =
      subst (λ (z : Frac). t (cosine_over (a * up d) (down d)) z) (sine_is (a * up d) (down d) (down_pos d) r_most)
      (subst (λ (z : Frac). t z (sine (fin false a d))) (cosine_is (a * up d) (down d) (down_pos d) r_most) h)

  from_above : Small (residual (fin false m e) (fin false n f) (fin false a d)) (larger (fin false m e) (fin false n f)) (down e * down f) → ⊥
  from_above t =
      too_small (m * up e) (down e) (n * up f) (down f) (a * up d) (down d) (larger (fin false m e) (fin false n f)) (down_pos e) (down_pos f) (down_pos d) y_least c_most r_most (larger_most (leb (m * up e * down f) (n * up f * down e)) (m * up e * down f) (n * up f * down e))
      (waves (λ (u w : Frac). Small (difference (product (worth (fin false m e)) u) (product (worth (fin false n f)) w)) (larger (fin false m e) (fin false n f)) (down e * down f)) t)

  from_below : Small (residual (fin false m e) (fin true n f) (fin false a d)) (larger (fin false m e) (fin true n f)) (down e * down f) → ⊥
  from_below t =
      too_small_below (m * up e) (down e) (n * up f) (down f) (a * up d) (down d) (larger (fin false m e) (fin true n f)) (down_pos e) (down_pos f) (down_pos d) y_least c_most r_most (larger_most (leb (m * up e * down f) (n * up f * down e)) (m * up e * down f) (n * up f * down e))
      (waves (λ (u w : Frac). Small (difference (product (worth (fin false m e)) u) (product (worth (fin true n f)) w)) (larger (fin false m e) (fin true n f)) (down e * down f)) t)

true_of : (b : Bool) → T b → b ≡ true
true_of true h = refl
true_of false h = absurd h

T_of : (b : Bool) → b ≡ true → T b
T_of true h = tt
T_of false h = absurd (false≢true h)

y_there : (x q : ℕ) (z : ℕ) → 0 < q → 721 * q ≤ 4096 * x → 0 < x + z
y_there x q z P h = omega arith

-- no such angle is smaller
none_smaller : (y c r : Float) → finite y ≡ true → negative y ≡ false → le least_root y ≡ true → le (size_of c) wide ≡ true → negative r ≡ false → le r least_angle ≡ true → (0 < top y + top c → Toward y c r) → ⊥
unfolding size_of of_bits
none_smaller nan c r i n h l p s t = false≢true i
none_smaller (inf b) c r i n h l p s t = false≢true i
none_smaller (fin true m e) c r i n h l p s t = true≢false n
none_smaller (fin false m e) nan r i n h l p s t = false≢true (unfold le lt eq in l)
none_smaller (fin false m e) (inf b) r i n h l p s t = false≢true (unfold le lt eq in l)
none_smaller (fin false m e) (fin b k f) nan i n h l p s t = false≢true (unfold le lt eq in s)
none_smaller (fin false m e) (fin b k f) (inf true) i n h l p s t = true≢false p
none_smaller (fin false m e) (fin b k f) (inf false) i n h l p s t = false≢true (unfold le lt eq in s)
none_smaller (fin false m e) (fin b k f) (fin true a d) i n h l p s t = true≢false p
none_smaller (fin false m e) (fin true k f) (fin false a d) i n h l p s t =
    let Y = T_of _ h in
    let C = T_of _ l in
    let R = T_of _ s in
    from_below m e k f a d Y C R (t (y_there (m * up e) (down e) (k * up f) (down_pos e) (y_least m e k f a d Y C R))).small
none_smaller (fin false m e) (fin false k f) (fin false a d) i n h l p s t =
    let Y = T_of _ h in
    let C = T_of _ l in
    let R = T_of _ s in
    from_above m e k f a d Y C R (t (y_there (m * up e) (down e) (k * up f) (down_pos e) (y_least m e k f a d Y C R))).small

root_least : le least_root (root least_square) ≡ true
unfolding root of_bits round le lt eq
root_least = refl

square_above : le nought least_square ≡ true
unfolding of_bits le lt eq
square_above = refl

-- ---- the arccosine
module _ (c r : Float) (f : T (fits binary64 c)) (i : cosine_range c ≡ true) (w : le (size_of c) wide ≡ true) (h : le least_square (mul binary64 (sub binary64 one c) (add binary64 one c)) ≡ true) (v : ArccosineValue c r) where
  sine_least : le least_root (sine_of_cosine c) ≡ true
  unfolding sine_of_cosine
  sine_least = order.le_trans least_root (root least_square) (root (mul binary64 (sub binary64 one c) (add binary64 one c))) root_least (root_mono least_square (mul binary64 (sub binary64 one c) (add binary64 one c)) (of_bits-fits binary64 0x3f9f_c000_0000_0000) (mul-fits binary64 _ _) square_above h)

  number_is : is_nan least_angle ≡ false
  unfolding is_nan
  number_is = refl

  pub angle_least : le least_angle r ≡ true
  angle_least = go (le r least_angle) refl
    where
      go : (b : Bool) → le r least_angle ≡ b → le least_angle r ≡ true
      go true e = absurd (none_smaller (sine_of_cosine c) c r (sine_sound c f i).0 (sine_sound c f i).1 sine_least w v.positive e v.direction.toward)
      go false e = order.le_total least_angle r number_is (order.le_right nought r (true_of _ v.least)) e

-- ---- in degrees
abbrev Far : Float → Type 0
Far r = (le least_angle r ≡ true) × (negative r ≡ false)

scaled : (k : ℕ) (x : ℤ) (a : ℕ) (d : ℤ) → T (le least_angle (fin false a d)) → le (mul binary64 least_angle (fin false k x)) (mul binary64 (fin false a d) (fin false k x)) ≡ true
unfolding mul
scaled k x a d h = true_of _ (round_mono binary64 (715 * 1 * (k * up x)) (4096 * down x) (a * up d * (k * up x)) (down d * down x) (mul-pos (lit< tt) (down_pos x)) (mul-pos (down_pos d) (down_pos x)) (go (a * up d) (down d) (k * up x) (down x) (le_cross 715 (negsuc 11) a d h)))
  where
    go : (r q s t : ℕ) → 715 * 1 * q ≤ r * 4096 → 715 * 1 * s * (q * t) ≤ r * s * (4096 * t)
    go r q s t h =
        let x : 715 * 1 * q * (s * t) ≤ r * 4096 * (s * t) = mul-le-mul_right (s * t) h in
        omega arith

least_degrees : lt ten_degrees (to_degrees least_angle) ≡ true
unfolding to_degrees of_bits mul round lt
least_degrees = refl

degrees_above : (r : Float) → Far r → lt ten_degrees (to_degrees r) ≡ true
degrees_above nan (h, n) = absurd (false≢true (unfold le lt eq in h))
degrees_above (inf true) (h, n) = absurd (true≢false n)
degrees_above (inf false) (h, n) = unfold to_degrees mul of_bits lt in refl
degrees_above (fin true a d) (h, n) = absurd (true≢false n)
degrees_above (fin false a d) (h, n) = order.lt_le_trans ten_degrees (to_degrees least_angle) (to_degrees (fin false a d)) least_degrees (unfold to_degrees of_bits in scaled _ _ a d (T_of _ h))

minimum_far : (x y : Float) → Far x → Far y → Far (minimum x y)
unfolding minimum
minimum_far x y p q = go (is_nan x) (lt y x)
  where
    go : (a b : Bool) → Far (cond a y (cond b y x))
    go true b = q
    go false true = q
    go false false = p

abbrev Least : Option Float → Type 0
Least (Some r) = Far r
Least None = Unit {0}

half_above : lt ten_degrees half_turn_degrees ≡ true
unfolding of_bits lt
half_above = refl

clearance_above : (a b : Option Float) → Least a → Least b → lt ten_degrees (with a half_turn_degrees (λ near. with b half_turn_degrees (λ far. to_degrees (minimum near far)))) ≡ true
clearance_above (Some x) (Some y) p q = degrees_above (minimum x y) (minimum_far x y p q)
clearance_above (Some x) None p q = half_above
clearance_above None b p q = half_above

least_of : (c : Float) → T (fits binary64 c) → le (size_of c) wide ≡ true → le least_square (mul binary64 (sub binary64 one c) (add binary64 one c)) ≡ true → (a : Option Float) → ArccosineAnswer c a → Least a
least_of c f w h (Some r) (i, v) = (angle_least c r f i w h v, v.positive)
least_of c f w h None i = tt

-- (1 - -c) (1 + -c) is the same product
turned_round : (c : Float) → mul binary64 (sub binary64 one (neg c)) (add binary64 one (neg c)) ≡ mul binary64 (sub binary64 one c) (add binary64 one c)
unfolding sub
turned_round c = ap (λ (z : Float). mul binary64 (add binary64 one z) (add binary64 one (neg c))) (order.neg_neg c) ∙ mul_commutes binary64 (add binary64 one c) (add binary64 one (neg c))

left : (a b : Bool) → (a && b) ≡ true → a ≡ true
left true b h = refl
left false b h = absurd (false≢true h)

right : (a b : Bool) → (a && b) ≡ true → b ≡ true
right true b h = h
right false b h = absurd (false≢true h)

module _ (c cone : Float) (f : T (fits binary64 c)) (h : well_outside c cone ≡ true) where
  narrow : le cone ten_degrees ≡ true
  unfolding well_outside
  narrow = left (le cone ten_degrees) (le (size_of c) wide) (left (le cone ten_degrees && le (size_of c) wide) _ h)

  not_wide : le (size_of c) wide ≡ true
  unfolding well_outside
  not_wide = right (le cone ten_degrees) (le (size_of c) wide) (left (le cone ten_degrees && le (size_of c) wide) _ h)

  square : le least_square (mul binary64 (sub binary64 one c) (add binary64 one c)) ≡ true
  unfolding well_outside
  square = right (le cone ten_degrees && le (size_of c) wide) _ h

  cone_below : lt cone (with (arccosine_of c) half_turn_degrees (λ near. with (arccosine_of (neg c)) half_turn_degrees (λ far. to_degrees (minimum near far)))) ≡ true
  cone_below =
      order.le_lt_trans cone ten_degrees _ narrow
      (clearance_above (arccosine_of c) (arccosine_of (neg c)) (least_of c f not_wide square (arccosine_of c) (arccosine_answer c f))
      (least_of (neg c) (neg-fits binary64 c f) (ap (λ (z : Float). le z wide) (size_neg c) ∙ not_wide) (ap (λ (z : Float). le least_square z) (turned_round c) ∙ square) (arccosine_of (neg c)) (arccosine_answer (neg c) (neg-fits binary64 c f))))

-- ---- the law
pub outside_the_cone : (frame : SingularFrame) (cone : Float) (axis : Vec3) → well_outside (clamp_unit (dot axis frame.direction)) cone ≡ true → in_singular_cone frame cone axis ≡ false
unfolding in_singular_cone pole_clearance_deg
outside_the_cone frame cone axis h = order.lt_not_le cone _ (cone_below (clamp_unit (dot axis frame.direction)) cone (clamp_fits (dot axis frame.direction) (unfold dot in add-fits binary64 _ _)) h)
