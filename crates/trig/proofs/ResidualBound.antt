-- |t * C - S| from the float values of C and S: what the check of a candidate for atan t shows. Assumes nothing.
use Rattle.std.proofs.Common.{ℕ, ◌+◌, ◌*◌, ◌<◌, ◌≤◌, mul-le-mul_right, mul-le-mul_left, le_of_mul-le-mul_right, arith}
use Rattle.float.proofs.Rounding.{Within}

-- t * N / D is p within e + f
times_up : (u t c p N D e f : ℕ) → 0 < u → t ≤ u → N * u ≤ c * D + e * D → t * c ≤ p * u + f * u → t * N ≤ (p + f + e) * D
times_up u t c p N D e f P L w r = le_of_mul-le-mul_right {k = u} (go (mul-le-mul_left t w) (mul-le-mul_right D r) (mul-le-mul_right (e * D) L)) P
  where
    go : t * (N * u) ≤ t * (c * D + e * D) → t * c * D ≤ (p * u + f * u) * D → t * (e * D) ≤ u * (e * D) → t * N * u ≤ (p + f + e) * D * u
    go a b d = omega arith

times_down : (u t c p N D e f : ℕ) → 0 < u → t ≤ u → c * D ≤ N * u + e * D → p * u ≤ t * c + f * u → p * D ≤ t * N + (f + e) * D
times_down u t c p N D e f P L w r = le_of_mul-le-mul_right {k = u} (go (mul-le-mul_left t w) (mul-le-mul_right D r) (mul-le-mul_right (e * D) L)) P
  where
    go : t * (c * D) ≤ t * (N * u + e * D) → p * u * D ≤ (t * c + f * u) * D → t * (e * D) ≤ u * (e * D) → p * D * u ≤ (t * N + (f + e) * D) * u
    go a b d = omega arith

up : (u t p s N D M F e f g : ℕ) → t * N ≤ (p + f + e) * D → p ≤ s + g → s * F ≤ M * u + e * F → t * N * F ≤ M * u * D + (e + e + f + g) * (D * F)
up u t p s N D M F e f g a b c = go (mul-le-mul_right F a) (mul-le-mul_right (D * F) b) (mul-le-mul_right D c)
  where
    go : t * N * F ≤ (p + f + e) * D * F → p * (D * F) ≤ (s + g) * (D * F) → s * F * D ≤ (M * u + e * F) * D → t * N * F ≤ M * u * D + (e + e + f + g) * (D * F)
    go x y z = omega arith

down : (u t p s N D M F e f g : ℕ) → p * D ≤ t * N + (f + e) * D → s ≤ p + g → M * u ≤ s * F + e * F → M * u * D ≤ t * N * F + (e + e + f + g) * (D * F)
down u t p s N D M F e f g a b c = go (mul-le-mul_right F a) (mul-le-mul_right (D * F) b) (mul-le-mul_right D c)
  where
    go : p * D * F ≤ (t * N + (f + e) * D) * F → s * (D * F) ≤ (p + g) * (D * F) → M * u * D ≤ (s * F + e * F) * D → M * u * D ≤ t * N * F + (e + e + f + g) * (D * F)
    go x y z = omega arith

-- t is t / u, C is N / D within e, S is M / F within e, p is t * c within f, and |p - s| ≤ g
pub residual_within : (u t c s p N D M F e f g : ℕ) → 0 < u → t ≤ u → Within c (N * u) D e → Within s (M * u) F e → Within p (t * c) u f → p ≤ s + g → s ≤ p + g
    → (t * N * F ≤ M * u * D + (e + e + f + g) * (D * F)) × (M * u * D ≤ t * N * F + (e + e + f + g) * (D * F))
residual_within u t c s p N D M F e f g P L w x r h k =
    (up u t p s N D M F e f g (times_up u t c p N D e f P L w.1 r.1) h x.0, down u t p s N D M F e f g (times_down u t c p N D e f P L w.0 r.0) k x.1)

-- one half of it each: what a comparison p ≤ s, or s ≤ p, shows
pub half_up : (u t c s p N D M F e f : ℕ) → 0 < u → t ≤ u → Within c (N * u) D e → Within s (M * u) F e → Within p (t * c) u f → p ≤ s → t * N * F ≤ M * u * D + (e + e + f + 0) * (D * F)
half_up u t c s p N D M F e f P L w x r h = up u t p s N D M F e f 0 (times_up u t c p N D e f P L w.1 r.1) (plus p s h) x.0
  where
    plus : (p s : ℕ) → p ≤ s → p ≤ s + 0
    plus p s h = omega arith

pub half_down : (u t c s p N D M F e f : ℕ) → 0 < u → t ≤ u → Within c (N * u) D e → Within s (M * u) F e → Within p (t * c) u f → s ≤ p → M * u * D ≤ t * N * F + (e + e + f + 0) * (D * F)
half_down u t c s p N D M F e f P L w x r h = down u t p s N D M F e f 0 (times_down u t c p N D e f P L w.0 r.0) (plus s p h) x.1
  where
    plus : (p s : ℕ) → p ≤ s → p ≤ s + 0
    plus p s h = omega arith
