-- The slope of S and C, the one law for both: at two fractions u / v and x / y from 0 to 1 that lie within w / v of each other, C differs by at most 2 w / v and
-- S by at most 3 w / v (`cosine_slope`, `sine_slope`). It rests on Horner's form, where one step of `lip` bounds the change of z. Assumes nothing.
use Rattle.std.proofs.Common.{◌≡◌, ℕ, zero, suc, ◌+◌, ◌-◌, ◌*◌, ◌^◌, ◌<◌, ◌≤◌, ◌⊎◌, sym, ap, ◌∙◌, subst, inl, inr, le_trans, le_of_eq, le_of_lt, mul-le-mul_right, mul_comm, mul-le-mul, mul-le-mul_left, mul-pos, le_of_mul-le-mul_right, arith, lit≤}
use native.Mathlib.Nat.{mul-mul-mul_comm, one-le-pow, pow-succ'}
use native.Mathlib.Numerals.{unary_clauses}
use Rattle.float.proofs.Units.{le_or_lt}
use Rattle.trig.specs.Fraction.{Frac}
use Rattle.trig.specs.Taylor.{sin_sum, cos_sum}
use Rattle.trig.proofs.HornerForm.{num, den, num_le, two_le, bounded, sin_is, cos_is}

-- |x - y| ≤ e
abbrev pub Apart : ℕ → ℕ → ℕ → Type 0
Apart x y e = (x ≤ y + e) × (y ≤ x + e)

-- D - z * N at two z: with |M - N| * d ≤ δ * F and z, z + δ ≤ d, M ≤ F, N ≤ F, D = c * d * F, 2 ≤ c
lip_step : (z δ d c F N M : ℕ) → z + δ ≤ d → 2 ≤ c → N ≤ F → M ≤ F → Apart (N * d) (M * d) (δ * F) → z * N ≤ c * d * F → (z + δ) * M ≤ c * d * F
    → Apart ((c * d * F - z * N) * d) ((c * d * F - (z + δ) * M) * d) (δ * (c * d * F))
lip_step z δ d c F N M Z C n m h a b = go (c * d * F - z * N) (c * d * F - (z + δ) * M) (split (c * d * F) (z * N) a) (split (c * d * F) ((z + δ) * M) b)
  where
    split : (x y : ℕ) → y ≤ x → x ≡ y + (x - y)
    split x y h = omega arith

    go : (p q : ℕ) → c * d * F ≡ z * N + p → c * d * F ≡ (z + δ) * M + q → Apart (p * d) (q * d) (δ * (c * d * F))
    go p q e f =
        (one (mul-le-mul_right (δ * d * F) C) (mul-le-mul_left z h.1) (mul-le-mul_left (δ * d) m) (mul-le-mul_right (δ * F) z_le) (eq e f), two (mul-le-mul_right (δ * d * F) C) (mul-le-mul_left z h.0) (mul-le-mul_left (δ * d) m) (mul-le-mul_right (δ * F) z_le) (eq e f))
      where
        z_le : z ≤ d
        z_le = omega arith

        eq : c * d * F ≡ z * N + p → c * d * F ≡ (z + δ) * M + q → z * N * d + p * d ≡ (z + δ) * M * d + q * d
        eq e f = ap (λ (x : ℕ). x) (sums (ap (λ (x : ℕ). x * d) (sym e ∙ f)))
          where
            sums : (z * N + p) * d ≡ ((z + δ) * M + q) * d → z * N * d + p * d ≡ (z + δ) * M * d + q * d
            sums g = omega arith

        one : 2 * (δ * d * F) ≤ c * (δ * d * F) → z * (M * d) ≤ z * (N * d + δ * F) → δ * d * M ≤ δ * d * F → z * (δ * F) ≤ d * (δ * F) → z * N * d + p * d ≡ (z + δ) * M * d + q * d → p * d ≤ q * d + δ * (c * d * F)
        one u v w x y = omega arith

        two : 2 * (δ * d * F) ≤ c * (δ * d * F) → z * (N * d) ≤ z * (M * d + δ * F) → δ * d * M ≤ δ * d * F → z * (δ * F) ≤ d * (δ * F) → z * N * d + p * d ≡ (z + δ) * M * d + q * d → q * d ≤ p * d + δ * (c * d * F)
        two u v w x y = omega arith

pub lip : (z δ d n i : ℕ) → z + δ ≤ d → 1 ≤ i → Apart (num z d n i * d) (num (z + δ) d n i * d) (δ * den d n i)
unfolding num
lip z δ d zero i h I = (le d, le d)
  where
    le : (d : ℕ) → 1 * d ≤ 1 * d + δ * 1
    le d = omega arith
lip z δ d (suc n) i h I =
    lip_step z δ d (i * suc i) (den d n (2 + i)) (num z d n (2 + i)) (num (z + δ) d n (2 + i)) h (two_le i I) (num_le z d n (2 + i)) (num_le (z + δ) d n (2 + i)) (lip z δ d n (2 + i) h (more i I))
    (bounded z d n i (less z δ d h) I) (bounded (z + δ) d n i h I)
  where
    more : (i : ℕ) → 1 ≤ i → 1 ≤ 2 + i
    more i h = omega arith

    less : (z δ d : ℕ) → z + δ ≤ d → z ≤ d
    less z δ d h = omega arith

-- ---- the sums depend only on the value of the fraction: z / d and (z * k) / (d * k)
pub den_scale : (d k n i : ℕ) → den (d * k) n i ≡ k ^ n * den d n i
unfolding den
den_scale d k zero i = simp unary_clauses
den_scale d k (suc n) i =
    ap (λ (x : ℕ). i * suc i * (d * k) * x) (den_scale d k n (2 + i)) ∙ go (i * suc i) d k (k ^ n) (den d n (2 + i)) ∙ ap (λ (x : ℕ). x * (i * suc i * d * den d n (2 + i))) (sym (pow-succ' k n))
  where
    go : (c d k p x : ℕ) → c * (d * k) * (p * x) ≡ k * p * (c * d * x)
    go c d k p x = omega arith

pub num_scale : (z d k n i : ℕ) → z ≤ d → 1 ≤ i → num (z * k) (d * k) n i ≡ k ^ n * num z d n i
unfolding num
num_scale z d k zero i h I = simp unary_clauses
num_scale z d k (suc n) i h I =
    go (den (d * k) (suc n) i) (den d (suc n) i) (num (z * k) (d * k) n (2 + i)) (num z d n (2 + i)) (k ^ n) (k ^ suc n) (den_scale d k (suc n) i) (num_scale z d k n (2 + i) h (more i I)) (pow-succ' k n) (bounded z d n i h I)
  where
    more : (i : ℕ) → 1 ≤ i → 1 ≤ 2 + i
    more i h = omega arith

    go : (D' D N' N p q : ℕ) → D' ≡ q * D → N' ≡ p * N → q ≡ k * p → z * N ≤ D → D' - z * k * N' ≡ q * (D - z * N)
    go D' D N' N p q a b c l = split (D - z * N) (apart D (z * N) l)
      where
        apart : (x y : ℕ) → y ≤ x → x ≡ y + (x - y)
        apart x y h = omega arith

        cut : (x y r : ℕ) → x ≡ y + r → x - y ≡ r
        cut x y r e = omega arith

        split : (r : ℕ) → D ≡ z * N + r → D' - z * k * N' ≡ q * r
        split r e = cut D' (z * k * N') (q * r) (sums (ap (λ (x : ℕ). q * x) e) (ap (λ (x : ℕ). z * k * x) b) (ap (λ (x : ℕ). x * (z * N)) c))
          where
            sums : q * D ≡ q * (z * N + r) → z * k * N' ≡ z * k * (p * N) → q * (z * N) ≡ k * p * (z * N) → D' ≡ z * k * N' + q * r
            sums f g h = a ∙ omega arith

-- ---- one denominator
apart_same : (a k c n i : ℕ) → 0 < c → a + k ≤ c → 1 ≤ i → Apart (num (a * a) (c * c) n i * c) (num ((a + k) * (a + k)) (c * c) n i * c) (2 * k * den (c * c) n i)
apart_same a k c n i P h I =
    cancel (num (a * a) (c * c) n i) (num ((a + k) * (a + k)) (c * c) n i) (den (c * c) n i)
    (subst (λ (z : ℕ). Apart (num (a * a) (c * c) n i * (c * c)) (num z (c * c) n i * (c * c)) (k * (2 * a + k) * den (c * c) n i)) (sym (next a k)) (lip (a * a) (k * (2 * a + k)) (c * c) n i (le_trans (le_of_eq (sym (next a k))) (mul-le-mul h h)) I))
  where
    next : (a k : ℕ) → (a + k) * (a + k) ≡ a * a + k * (2 * a + k)
    next a k = omega arith

    cancel : (x y d : ℕ) → Apart (x * (c * c)) (y * (c * c)) (k * (2 * a + k) * d) → Apart (x * c) (y * c) (2 * k * d)
    cancel x y d q = (le_of_mul-le-mul_right {k = c} (half x y d q.0 (mul-le-mul_right (k * d) h)) P, le_of_mul-le-mul_right {k = c} (half y x d q.1 (mul-le-mul_right (k * d) h)) P)
      where
        half : (x y d : ℕ) → x * (c * c) ≤ y * (c * c) + k * (2 * a + k) * d → (a + k) * (k * d) ≤ c * (k * d) → x * c * c ≤ (y * c + 2 * k * d) * c
        half x y d p q = omega arith

-- the next fraction, (u + 1) / v
module _ (u v : ℕ) (P : 0 < v) (h : u + 1 ≤ v) where
  pub cos_step : Apart (num (u * u) (v * v) 12 1 * v) (num ((u + 1) * (u + 1)) (v * v) 12 1 * v) (2 * den (v * v) 12 1)
  cos_step = apart_same u 1 v 12 1 P h (lit≤ tt)

  -- |u * N - (u + 1) * M| ≤ 3 * D
  pub sin_step : Apart (u * num (u * u) (v * v) 12 2) ((u + 1) * num ((u + 1) * (u + 1)) (v * v) 12 2) (3 * den (v * v) 12 2)
  sin_step = go (num (u * u) (v * v) 12 2) (num ((u + 1) * (u + 1)) (v * v) 12 2) (den (v * v) 12 2) (apart_same u 1 v 12 2 P h (lit≤ tt)) (num_le ((u + 1) * (u + 1)) (v * v) 12 2)
    where
      go : (N M D : ℕ) → Apart (N * v) (M * v) (2 * D) → M ≤ D → Apart (u * N) ((u + 1) * M) (3 * D)
      go N M D a m = (le_of_mul-le-mul_right {k = v} (one (mul-le-mul_left u a.0) (mul-le-mul_right (2 * D) h)) P, le_of_mul-le-mul_right {k = v} (two (mul-le-mul_left u a.1) (mul-le-mul_right (2 * D) h) (mul-le-mul_right v m)) P)
        where
          one : u * (N * v) ≤ u * (M * v + 2 * D) → (u + 1) * (2 * D) ≤ v * (2 * D) → u * N * v ≤ ((u + 1) * M + 3 * D) * v
          one p q = omega arith

          two : u * (M * v) ≤ u * (N * v + 2 * D) → (u + 1) * (2 * D) ≤ v * (2 * D) → M * v ≤ D * v → (u + 1) * M * v ≤ (u * N + 3 * D) * v
          two p q r = omega arith

apart_more : (x y e f : ℕ) → e ≤ f → Apart x y e → Apart x y f
apart_more x y e f h q = (omega arith, omega arith)

pub apart_both : (a b c n i e : ℕ) → 0 < c → a ≤ c → b ≤ c → 1 ≤ i → Apart a b e → Apart (num (a * a) (c * c) n i * c) (num (b * b) (c * c) n i * c) (2 * e * den (c * c) n i)
apart_both a b c n i e P A B I q = go (le_or_lt a b)
  where
    split : (x y : ℕ) → y ≤ x → y + (x - y) ≡ x
    split x y h = omega arith

    few : (x y : ℕ) → x ≤ y + e → y ≤ x → 2 * (x - y) ≤ 2 * e
    few x y h l = omega arith

    go : (a ≤ b) ⊎ (b < a) → Apart (num (a * a) (c * c) n i * c) (num (b * b) (c * c) n i * c) (2 * e * den (c * c) n i)
    go (inl h) =
        let r = subst (λ (z : ℕ). Apart (num (a * a) (c * c) n i * c) (num (z * z) (c * c) n i * c) (2 * (b - a) * den (c * c) n i)) (split b a h) (apart_same a (b - a) c n i P (le_trans (le_of_eq (split b a h)) B) I) in
        apart_more (num (a * a) (c * c) n i * c) (num (b * b) (c * c) n i * c) (2 * (b - a) * den (c * c) n i) (2 * e * den (c * c) n i) (mul-le-mul_right (den (c * c) n i) (few b a q.1 h)) r
    go (inr g) =
        let h = le_of_lt g in
        let r = subst (λ (z : ℕ). Apart (num (b * b) (c * c) n i * c) (num (z * z) (c * c) n i * c) (2 * (a - b) * den (c * c) n i)) (split a b h) (apart_same b (a - b) c n i P (le_trans (le_of_eq (split a b h)) A) I) in
        let s = apart_more (num (b * b) (c * c) n i * c) (num (a * a) (c * c) n i * c) (2 * (a - b) * den (c * c) n i) (2 * e * den (c * c) n i) (mul-le-mul_right (den (c * c) n i) (few a b q.0 h)) r in
        (s.1, s.0)

-- ---- two denominators: u / v and x / y, |u / v - x / y| ≤ w / v
module _ (u v x y w : ℕ) (V' : 0 < v) (Y : 0 < y) (U-le : u ≤ v) (X-le : x ≤ y) (near : Apart (u * y) (x * v) (w * y)) where
  num_left : (n i : ℕ) → 1 ≤ i → num (u * y * (u * y)) (v * y * (v * y)) n i ≡ (y * y) ^ n * num (u * u) (v * v) n i
  num_left n i I =
      ap (λ (z : ℕ). num z (v * y * (v * y)) n i) (mul-mul-mul_comm u y u y) ∙ ap (λ (z : ℕ). num (u * u * (y * y)) z n i) (mul-mul-mul_comm v y v y)
      ∙ num_scale (u * u) (v * v) (y * y) n i (mul-le-mul U-le U-le) I

  den_left : (n i : ℕ) → den (v * y * (v * y)) n i ≡ (y * y) ^ n * den (v * v) n i
  den_left n i = ap (λ (z : ℕ). den z n i) (mul-mul-mul_comm v y v y) ∙ den_scale (v * v) (y * y) n i

  turn : v * y * (v * y) ≡ y * y * (v * v)
  turn = mul-mul-mul_comm v y v y ∙ mul_comm (v * v) (y * y)

  num_right : (n i : ℕ) → 1 ≤ i → num (x * v * (x * v)) (v * y * (v * y)) n i ≡ (v * v) ^ n * num (x * x) (y * y) n i
  num_right n i I =
      ap (λ (z : ℕ). num z (v * y * (v * y)) n i) (mul-mul-mul_comm x v x v) ∙ ap (λ (z : ℕ). num (x * x * (v * v)) z n i) turn
      ∙ num_scale (x * x) (y * y) (v * v) n i (mul-le-mul X-le X-le) I

  den_right : (n i : ℕ) → den (v * y * (v * y)) n i ≡ (v * v) ^ n * den (y * y) n i
  den_right n i = ap (λ (z : ℕ). den z n i) turn ∙ den_scale (y * y) (v * v) n i

  both : (n i : ℕ) → 1 ≤ i → Apart ((y * y) ^ n * num (u * u) (v * v) n i * (v * y)) ((v * v) ^ n * num (x * x) (y * y) n i * (v * y)) (2 * (w * y) * ((y * y) ^ n * den (v * v) n i))
  both n i I =
      subst (λ (z : ℕ). Apart (z * (v * y)) ((v * v) ^ n * num (x * x) (y * y) n i * (v * y)) (2 * (w * y) * ((y * y) ^ n * den (v * v) n i))) (num_left n i I)
      (subst (λ (z : ℕ). Apart (num (u * y * (u * y)) (v * y * (v * y)) n i * (v * y)) (z * (v * y)) (2 * (w * y) * ((y * y) ^ n * den (v * v) n i))) (num_right n i I)
      (subst (λ (z : ℕ). Apart (num (u * y * (u * y)) (v * y * (v * y)) n i * (v * y)) (num (x * v * (x * v)) (v * y * (v * y)) n i * (v * y)) (2 * (w * y) * z)) (den_left n i)
      (apart_both (u * y) (x * v) (v * y) n i (w * y) (mul-pos V' Y) (mul-le-mul_right y U-le) (le_trans (mul-le-mul_right v X-le) (le_of_eq (mul_comm y v))) I near)))

  -- K N c ≤ L N' c + 2 w y K D, K D = L D'
  finish : (K L N D N' D' : ℕ) → 0 < K → K * D ≡ L * D' → Apart (K * N * (v * y)) (L * N' * (v * y)) (2 * (w * y) * (K * D)) → Apart (N * D' * v) (N' * D * v) (2 * w * (D * D'))
  finish K L N D N' D' P e q =
      (le_of_mul-le-mul_right {k = K * y} (one (mul-le-mul_right D' q.0) (ap (λ (z : ℕ). z * (N' * (v * y))) e)) (mul-pos P Y), le_of_mul-le-mul_right {k = K * y} (two (mul-le-mul_right D' q.1) (ap (λ (z : ℕ). z * (N' * (v * y))) e)) (mul-pos P Y))
    where
      one : K * N * (v * y) * D' ≤ (L * N' * (v * y) + 2 * (w * y) * (K * D)) * D' → K * D * (N' * (v * y)) ≡ L * D' * (N' * (v * y)) → N * D' * v * (K * y) ≤ (N' * D * v + 2 * w * (D * D')) * (K * y)
      one a b = omega arith

      two : L * N' * (v * y) * D' ≤ (K * N * (v * y) + 2 * (w * y) * (K * D)) * D' → K * D * (N' * (v * y)) ≡ L * D' * (N' * (v * y)) → N' * D * v * (K * y) ≤ (N * D' * v + 2 * w * (D * D')) * (K * y)
      two a b = omega arith

  pow_pos' : (a n : ℕ) → 0 < a → 0 < a ^ n
  pow_pos' a n h = one-le-pow n a h

  pub nested_slope : (i : ℕ) → 1 ≤ i → Apart (num (u * u) (v * v) 12 i * den (y * y) 12 i * v) (num (x * x) (y * y) 12 i * den (v * v) 12 i * v) (2 * w * (den (v * v) 12 i * den (y * y) 12 i))
  nested_slope i I = finish ((y * y) ^ 12) ((v * v) ^ 12) (num (u * u) (v * v) 12 i) (den (v * v) 12 i) (num (x * x) (y * y) 12 i) (den (y * y) 12 i) (pow_pos' (y * y) 12 (mul-pos Y Y)) (sym (den_left 12 i) ∙ den_right 12 i) (both 12 i I)

  -- u N / (v D) and x N' / (y D')
  pub product_slope : Apart (u * num (u * u) (v * v) 12 2 * (y * den (y * y) 12 2)) (x * num (x * x) (y * y) 12 2 * (v * den (v * v) 12 2)) (3 * w * (den (v * v) 12 2 * (y * den (y * y) 12 2)))
  product_slope = go (num (u * u) (v * v) 12 2) (den (v * v) 12 2) (num (x * x) (y * y) 12 2) (den (y * y) 12 2) (nested_slope 2 (lit≤ tt)) (num_le (x * x) (y * y) 12 2)
    where
      go : (N D N' D' : ℕ) → Apart (N * D' * v) (N' * D * v) (2 * w * (D * D')) → N' ≤ D' → Apart (u * N * (y * D')) (x * N' * (v * D)) (3 * w * (D * (y * D')))
      go N D N' D' q l = (
        le_of_mul-le-mul_right {k = v} (one (mul-le-mul_right (u * y) q.0) (mul-le-mul_right (2 * w * (D * D') * y) U-le) (mul-le-mul_right (N' * D * v) near.0) (mul-le-mul_right (w * y * D * v) l)) V',
        le_of_mul-le-mul_right {k = v} (two (mul-le-mul_right (u * y) q.1) (mul-le-mul_right (2 * w * (D * D') * y) U-le) (mul-le-mul_right (N' * D * v) near.1) (mul-le-mul_right (w * y * D * v) l)) V',
      )
        where
          one : N * D' * v * (u * y) ≤ (N' * D * v + 2 * w * (D * D')) * (u * y) → u * (2 * w * (D * D') * y) ≤ v * (2 * w * (D * D') * y) → u * y * (N' * D * v) ≤ (x * v + w * y) * (N' * D * v) → N' * (w * y * D * v) ≤ D' * (w * y * D * v) → u * N * (y * D') * v ≤ (x * N' * (v * D) + 3 * w * (D * (y * D'))) * v
          one a b c d = omega arith

          two : N' * D * v * (u * y) ≤ (N * D' * v + 2 * w * (D * D')) * (u * y) → u * (2 * w * (D * D') * y) ≤ v * (2 * w * (D * D') * y) → x * v * (N' * D * v) ≤ (u * y + w * y) * (N' * D * v) → N' * (w * y * D * v) ≤ D' * (w * y * D * v) → x * N' * (v * D) * v ≤ (u * N * (y * D') + 3 * w * (D * (y * D'))) * v
          two a b c d = omega arith

-- ---- the slope of the sums themselves
-- |f - g| ≤ a / b
pub record Slope (f g : Frac) (a b : ℕ) : Type 0 where
  pub above : b * (f.plus * g.over + g.minus * f.over) ≤ b * (g.plus * f.over + f.minus * g.over) + a * (f.over * g.over)
  pub below : b * (g.plus * f.over + f.minus * g.over) ≤ b * (f.plus * g.over + g.minus * f.over) + a * (f.over * g.over)

-- f is N / D and g is M / E, each with a common part that falls out
slope_of : (f g : Frac) (N D M E a b : ℕ) → f.plus ≡ N + f.minus → D ≡ f.over → g.plus ≡ M + g.minus → E ≡ g.over → Apart (N * E * b) (M * D * b) (a * (D * E)) → Slope f g a b
slope_of f g N D M E a b p o q r h =
    record {
      above = one f.plus f.minus f.over g.plus g.minus g.over p o q r h.0;
      below = two f.plus f.minus f.over g.plus g.minus g.over p o q r h.1;
    }
  where
    one : (fp fm fo gp gm go : ℕ) → fp ≡ N + fm → D ≡ fo → gp ≡ M + gm → E ≡ go → N * E * b ≤ M * D * b + a * (D * E) → b * (fp * go + gm * fo) ≤ b * (gp * fo + fm * go) + a * (fo * go)
    one fp fm fo gp gm go p o q r h =
        subst (λ (z : ℕ). b * (z * go + gm * fo) ≤ b * (gp * fo + fm * go) + a * (fo * go)) (sym p)
        (subst (λ (z : ℕ). b * ((N + fm) * go + gm * fo) ≤ b * (z * fo + fm * go) + a * (fo * go)) (sym q)
        (subst (λ (z : ℕ). b * ((N + fm) * go + gm * z) ≤ b * ((M + gm) * z + fm * go) + a * (z * go)) o
        (subst (λ (z : ℕ). b * ((N + fm) * z + gm * D) ≤ b * ((M + gm) * D + fm * z) + a * (D * z)) r (omega arith))))

    two : (fp fm fo gp gm go : ℕ) → fp ≡ N + fm → D ≡ fo → gp ≡ M + gm → E ≡ go → M * D * b ≤ N * E * b + a * (D * E) → b * (gp * fo + fm * go) ≤ b * (fp * go + gm * fo) + a * (fo * go)
    two fp fm fo gp gm go p o q r h =
        subst (λ (z : ℕ). b * (gp * fo + fm * go) ≤ b * (z * go + gm * fo) + a * (fo * go)) (sym p)
        (subst (λ (z : ℕ). b * (z * fo + fm * go) ≤ b * ((N + fm) * go + gm * fo) + a * (fo * go)) (sym q)
        (subst (λ (z : ℕ). b * ((M + gm) * z + fm * go) ≤ b * ((N + fm) * go + gm * z) + a * (z * go)) o
        (subst (λ (z : ℕ). b * ((M + gm) * D + fm * z) ≤ b * ((N + fm) * z + gm * D) + a * (D * z)) r (omega arith))))

module _ (u v x y w : ℕ) (P : 0 < v) (Q : 0 < y) (low : u ≤ v) (low' : x ≤ y) (near : Apart (u * y) (x * v) (w * y)) where
  pub cosine_slope : Slope (cos_sum u v) (cos_sum x y) (2 * w) v
  cosine_slope =
      slope_of (cos_sum u v) (cos_sum x y) (num (u * u) (v * v) 12 1) (den (v * v) 12 1) (num (x * x) (y * y) 12 1) (den (y * y) 12 1) (2 * w) v (cos_is u v low).0 (cos_is u v low).1 (cos_is x y low').0 (cos_is x y low').1
      (nested_slope u v x y w P Q low low' near 1 (lit≤ tt))

  pub sine_slope : Slope (sin_sum u v) (sin_sum x y) (3 * w) v
  sine_slope =
      slope_of (sin_sum u v) (sin_sum x y) (u * num (u * u) (v * v) 12 2) (v * den (v * v) 12 2) (x * num (x * x) (y * y) 12 2) (y * den (y * y) 12 2) (3 * w) v (sin_is u v low).0 (sin_is u v low).1 (sin_is x y low').0 (sin_is x y low').1
      (spread (u * num (u * u) (v * v) 12 2 * (y * den (y * y) 12 2)) (x * num (x * x) (y * y) 12 2 * (v * den (v * v) 12 2)) (den (v * v) 12 2) (y * den (y * y) 12 2) (product_slope u v x y w P Q low low' near))
    where
      spread : (a b d e : ℕ) → Apart a b (3 * w * (d * e)) → Apart (a * v) (b * v) (3 * w * (v * d * e))
      spread a b d e h = (one (mul-le-mul_right v h.0), two (mul-le-mul_right v h.1))
        where
          one : a * v ≤ (b + 3 * w * (d * e)) * v → a * v ≤ b * v + 3 * w * (v * d * e)
          one k = omega arith

          two : b * v ≤ (a + 3 * w * (d * e)) * v → b * v ≤ a * v + 3 * w * (v * d * e)
          two k = omega arith
