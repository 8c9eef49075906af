-- From |t * C(i) - S(i)| for a rounded tangent t of p / q, to |p * C - q * S| ≤ 2 ^ -46 * q at an angle near to i. Assumes nothing.
use Rattle.std.proofs.Common.{◌≡◌, ℕ, ◌+◌, ◌-◌, ◌*◌, ◌^◌, ◌<◌, ◌≤◌, refl, ap, mul-le-mul_right, mul-le-mul, mul-le-mul_left, mul-pos, le_of_mul-le-mul_right, arith, lit<, lit≤}
use Rattle.float.proofs.Rounding.{Within}
use Rattle.float.specs.Units.{U}
use Rattle.float.proofs.Rounding.{W, U-is, U_pos}
use Rattle.trig.proofs.HornerForm.{num, den, num_le, den_pos}
use Rattle.trig.proofs.Slope.{Apart, nested_slope, product_slope}
use Rattle.trig.proofs.GridAngle.{vv, cn, cd, sn, sd, Upper, Lower}

-- a / b ≤ c / d + e
abbrev Under : ℕ → ℕ → ℕ → ℕ → ℕ → Type 0
Under a b c d e = a * d ≤ c * b + e * (b * d)

under_trans : (a b c d f h e g : ℕ) → 0 < d → Under a b c d e → Under c d f h g → Under a b f h (e + g)
under_trans a b c d f h e g P p q = le_of_mul-le-mul_right {k = d} (go (mul-le-mul_right h p) (mul-le-mul_right b q)) P
  where
    go : a * d * h ≤ (c * b + e * (b * d)) * h → c * h * b ≤ (f * d + g * (d * h)) * b → a * h * d ≤ (f * b + (e + g) * (b * h)) * d
    go x y = omega arith

-- W is 2 ^ -57, so w / 2 ^ 53 is 16 w W
unit : (u w v : ℕ) → u ≡ 2 ^ 57 * w → v ≡ 2 ^ 53 → u ≡ 16 * w * v
unit u w v e f =
    let a : 16 * w * v ≡ 16 * w * 2 ^ 53 = ap (λ (z : ℕ). 16 * w * z) f in
    omega arith

vv_is : vv ≡ 2 ^ 53
unfolding vv
vv_is = refl

vv_pos : 0 < vv
unfolding vv
vv_pos = lit< tt

-- t N / D and t N' / D', from N / D and N' / D'
cos_move : (u t w v N D N' D' : ℕ) → 0 < v → t ≤ u → u ≡ 16 * w * v → N * D' * v ≤ N' * D * v + 2 * 5 * (D * D') → Under (t * N) D (t * N') D' (160 * w)
cos_move u t w v N D N' D' P l e q = le_of_mul-le-mul_right {k = v} (go (mul-le-mul_left t q) (mul-le-mul_right (10 * (D * D')) l) (ap (λ (z : ℕ). z * (10 * (D * D'))) e)) P
  where
    go : t * (N * D' * v) ≤ t * (N' * D * v + 2 * 5 * (D * D')) → t * (10 * (D * D')) ≤ u * (10 * (D * D')) → u * (10 * (D * D')) ≡ 16 * w * v * (10 * (D * D')) → t * N * D' * v ≤ (t * N' * D + 160 * w * (D * D')) * v
    go a b c = omega arith

-- S is M / (v * D), S' is M' / F
sin_move : (u w v M D M' F : ℕ) → u ≡ 16 * w * v → M * F ≤ M' * (v * D) + 3 * 5 * (D * F) → Under (M * u) (v * D) (M' * u) F (240 * w)
sin_move u w v M D M' F e q = go (mul-le-mul_right u q) (ap (λ (z : ℕ). z * (15 * (D * F))) e)
  where
    go : M * F * u ≤ (M' * (v * D) + 3 * 5 * (D * F)) * u → u * (15 * (D * F)) ≡ 16 * w * v * (15 * (D * F)) → M * u * F ≤ M' * u * (v * D) + 240 * w * (v * D * F)
    go a b = omega arith

sin_back : (u w v M D M' F : ℕ) → u ≡ 16 * w * v → M' * (v * D) ≤ M * F + 3 * 5 * (D * F) → Under (M' * u) F (M * u) (v * D) (240 * w)
sin_back u w v M D M' F e q = go (mul-le-mul_right u q) (ap (λ (z : ℕ). z * (15 * (D * F))) e)
  where
    go : M' * (v * D) * u ≤ (M * F + 3 * 5 * (D * F)) * u → u * (15 * (D * F)) ≡ 16 * w * v * (15 * (D * F)) → M' * u * (v * D) ≤ M * u * F + 240 * w * (F * (v * D))
    go a b = omega arith

-- p U N' / (q D') and t N' / D'
ratio_up : (u t w p q N D : ℕ) → N ≤ D → p * u ≤ t * q + 16 * w * q → Under (p * u * N) (q * D) (t * N) D (16 * w)
ratio_up u t w p q N D l h = go (mul-le-mul_right (N * D) h) (mul-le-mul_right (16 * w * q * D) l)
  where
    go : p * u * (N * D) ≤ (t * q + 16 * w * q) * (N * D) → N * (16 * w * q * D) ≤ D * (16 * w * q * D) → p * u * N * D ≤ t * N * (q * D) + 16 * w * (q * D * D)
    go a b = omega arith

ratio_down : (u t w p q N D : ℕ) → N ≤ D → t * q ≤ p * u + 16 * w * q → Under (t * N) D (p * u * N) (q * D) (16 * w)
ratio_down u t w p q N D l h = go (mul-le-mul_right (N * D) h) (mul-le-mul_right (16 * w * q * D) l)
  where
    go : t * q * (N * D) ≤ (p * u + 16 * w * q) * (N * D) → N * (16 * w * q * D) ≤ D * (16 * w * q * D) → t * N * (q * D) ≤ p * u * N * D + 16 * w * (D * (q * D))
    go a b = omega arith

-- 2 ^ 46 * 2048 W is 1
last_up : (u w p q N D M F : ℕ) → 0 < u → u ≡ 2 ^ 57 * w → Under (p * u * N) (q * D) (M * u) F (16 * w + 848 * w) → 2 ^ 46 * (p * N * F) ≤ 2 ^ 46 * (q * M * D) + q * (D * F)
last_up u w p q N D M F P e h = le_of_mul-le-mul_right {k = u} (go h (ap (λ (z : ℕ). z * (q * (D * F))) e)) P
  where
    go : p * u * N * F ≤ M * u * (q * D) + (16 * w + 848 * w) * (q * D * F) → u * (q * (D * F)) ≡ 2 ^ 57 * w * (q * (D * F)) → 2 ^ 46 * (p * N * F) * u ≤ (2 ^ 46 * (q * M * D) + q * (D * F)) * u
    go a b = omega arith

last_down : (u w p q N D M F : ℕ) → 0 < u → u ≡ 2 ^ 57 * w → Under (M * u) F (p * u * N) (q * D) (848 * w + 16 * w) → 2 ^ 46 * (q * M * D) ≤ 2 ^ 46 * (p * N * F) + q * (D * F)
last_down u w p q N D M F P e h = le_of_mul-le-mul_right {k = u} (go h (ap (λ (z : ℕ). z * (q * (D * F))) e)) P
  where
    go : M * u * (q * D) ≤ p * u * N * F + (848 * w + 16 * w) * (F * (q * D)) → u * (q * (D * F)) ≡ 2 ^ 57 * w * (q * (D * F)) → 2 ^ 46 * (q * M * D) * u ≤ (2 ^ 46 * (p * N * F) + q * (D * F)) * u
    go a b = omega arith

-- |t C - S| ≤ 848 * 2 ^ -57 at the angle g / v, for a t in units: C is N / D and S is M / F
pub record Tight (t g v : ℕ) : Type 0 where
  pub up : t * num (g * g) (v * v) 12 1 * (v * den (v * v) 12 2) ≤ g * num (g * g) (v * v) 12 2 * U * den (v * v) 12 1 + 848 * W * (den (v * v) 12 1 * (v * den (v * v) 12 2))
  pub down : g * num (g * g) (v * v) 12 2 * U * den (v * v) 12 1 ≤ t * num (g * g) (v * v) 12 1 * (v * den (v * v) 12 2) + 848 * W * (v * den (v * v) 12 2 * den (v * v) 12 1)

module _ (t i g v : ℕ) (t_le : t ≤ U) (i-le : i ≤ vv) (g-le : g ≤ v) (v_pos : 0 < v) (above : Upper t i (448 * W)) (below : Lower t i (448 * W)) (near : Apart (i * v) (g * vv) (5 * v)) where
  D0-pos : 0 < den (vv * vv) 12 1
  D0-pos = den_pos (vv * vv) 12 1 (mul-pos vv_pos vv_pos) (lit≤ tt)

  F0-pos : 0 < vv * den (vv * vv) 12 2
  F0-pos = mul-pos vv_pos (den_pos (vv * vv) 12 2 (mul-pos vv_pos vv_pos) (lit≤ tt))

  cos_both : Apart (num (i * i) (vv * vv) 12 1 * den (v * v) 12 1 * vv) (num (g * g) (v * v) 12 1 * den (vv * vv) 12 1 * vv) (2 * 5 * (den (vv * vv) 12 1 * den (v * v) 12 1))
  cos_both = nested_slope i vv g v 5 vv_pos v_pos i-le g-le near 1 (lit≤ tt)

  sin_both : Apart (i * num (i * i) (vv * vv) 12 2 * (v * den (v * v) 12 2)) (g * num (g * g) (v * v) 12 2 * (vv * den (vv * vv) 12 2)) (3 * 5 * (den (vv * vv) 12 2 * (v * den (v * v) 12 2)))
  sin_both = product_slope i vv g v 5 vv_pos v_pos i-le g-le near

  scale : U ≡ 16 * W * vv
  scale = unit U W vv U-is vv_is

  pub tight : Tight t g v
  unfolding cn cd sn sd
  tight = record {
    up = sum_up (t * N1 * F1) (M1 * U * D1) W (D1 * F1)
        (under_trans (t * N1) D1 (t * N0) D0 (M1 * U) F1 (160 * W) (448 * W + 240 * W) D0-pos (cos_move U t W vv N1 D1 N0 D0 vv_pos t_le scale (order N1 D0 D1 N0 vv cos_both.1))
        (under_trans (t * N0) D0 (M0 * U) F0 (M1 * U) F1 (448 * W) (240 * W) F0-pos below.low (sin_move U W vv M0 (den (vv * vv) 12 2) M1 F1 scale sin_both.0)));
    down = sum_down (M1 * U * D1) (t * N1 * F1) W (F1 * D1)
        (under_trans (M1 * U) F1 (M0 * U) F0 (t * N1) D1 (240 * W) (448 * W + 160 * W) F0-pos (sin_back U W vv M0 (den (vv * vv) 12 2) M1 F1 scale sin_both.1)
        (under_trans (M0 * U) F0 (t * N0) D0 (t * N1) D1 (448 * W) (160 * W) D0-pos (other (M0 * U * D0) (t * N0 * F0) (448 * W) D0 F0 above.up)
        (cos_move U t W vv N0 D0 N1 D1 vv_pos t_le scale cos_both.0)));
  }
    where
      N0 : ℕ
      N0 = num (i * i) (vv * vv) 12 1

      D0 : ℕ
      D0 = den (vv * vv) 12 1

      M0 : ℕ
      M0 = i * num (i * i) (vv * vv) 12 2

      F0 : ℕ
      F0 = vv * den (vv * vv) 12 2

      N1 : ℕ
      N1 = num (g * g) (v * v) 12 1

      D1 : ℕ
      D1 = den (v * v) 12 1

      M1 : ℕ
      M1 = g * num (g * g) (v * v) 12 2

      F1 : ℕ
      F1 = v * den (v * v) 12 2

      order : (a b d c v : ℕ) → a * b * v ≤ c * d * v + 2 * 5 * (b * d) → a * b * v ≤ c * d * v + 2 * 5 * (d * b)
      order a b d c v h = omega arith

      other : (a b e d f : ℕ) → a ≤ b + e * (d * f) → a ≤ b + e * (f * d)
      other a b e d f h = omega arith

      sum_up : (a b w d : ℕ) → a ≤ b + (160 * w + (448 * w + 240 * w)) * d → a ≤ b + 848 * w * d
      sum_up a b w d h = omega arith

      sum_down : (a b w d : ℕ) → a ≤ b + (240 * w + (448 * w + 160 * w)) * d → a ≤ b + 848 * w * d
      sum_down a b w d h = omega arith

-- |p C - q S| ≤ 2 ^ -46 q, for C = N / D, S = M / F
pub record Met (p q N D M F : ℕ) : Type 0 where
  pub up : 2 ^ 46 * (p * N * F) ≤ 2 ^ 46 * (q * M * D) + q * (D * F)
  pub down : 2 ^ 46 * (q * M * D) ≤ 2 ^ 46 * (p * N * F) + q * (D * F)

pub met : (t p q g v : ℕ) → 0 < v → Tight t g v → Within t (p * U) q (16 * W) → Met p q (num (g * g) (v * v) 12 1) (den (v * v) 12 1) (g * num (g * g) (v * v) 12 2) (v * den (v * v) 12 2)
met t p q g v P h ratio = record {
  up = last_up U W p q N D M F U_pos U-is (under_trans (p * U * N) (q * D) (t * N) D (M * U) F (16 * W) (848 * W) D-pos (ratio_up U t W p q N D (num_le (g * g) (v * v) 12 1) ratio.1) h.up);
  down = last_down U W p q N D M F U_pos U-is (under_trans (M * U) F (t * N) D (p * U * N) (q * D) (848 * W) (16 * W) D-pos h.down (ratio_down U t W p q N D (num_le (g * g) (v * v) 12 1) ratio.0));
}
  where
    N : ℕ
    N = num (g * g) (v * v) 12 1

    D : ℕ
    D = den (v * v) 12 1

    M : ℕ
    M = g * num (g * g) (v * v) 12 2

    F : ℕ
    F = v * den (v * v) 12 2

    D-pos : 0 < den (v * v) 12 1
    D-pos = den_pos (v * v) 12 1 (mul-pos P P) (lit≤ tt)

-- ---- the cosine's sum is above zero
pub cos_pos : (g v : ℕ) → 0 < v → g ≤ v → 0 < num (g * g) (v * v) 12 1
unfolding num
cos_pos g v P h = go (v * v) (g * g) (den (v * v) 11 3) (num (g * g) (v * v) 11 3) (mul-pos (mul-pos P P) (den_pos (v * v) 11 3 (mul-pos P P) (lit≤ tt))) (mul-le-mul (mul-le-mul h h) (num_le (g * g) (v * v) 11 3))
  where
    go : (z y d n : ℕ) → 0 < z * d → y * n ≤ z * d → 0 < 1 * 2 * z * d - y * n
    go z y d n p l = omega arith
