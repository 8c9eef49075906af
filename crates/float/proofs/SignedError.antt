-- The rounding error of a sum, a difference or a product of any signs: a result of less than 2 ^ (54 + h) units is within 2 ^ h units of the exact one. An exact result is (p - n) / c, a
-- difference of whole numbers over a denominator, as in `Signed.antt`; in units it is (p - n) * U / c.
use Rattle.std.proofs.Common.{◌≡◌, ℕ, ◌+◌, ◌*◌, ◌^◌, ◌<◌, ◌≤◌, Bool, true, false, sym, ap, subst, mul-le-mul_right, lt_of_mul-lt-mul_right, mul-lt-mul_of_pos_right, le_of_mul-le-mul_right, arith}
use lib.Ieee.{Float, binary64, round, add, sub}
use Rattle.float.proofs.Rounding.{U_pos, round_near}
use Rattle.float.proofs.Signed.{pl, mi, Rnd, rnd_add, rnd_sub}
use Rattle.float.specs.Units.{U, Is}

-- z is finite, and |z - (p - n) U / c| ≤ e, in units
pub record Near (z : Float) (p n c e : ℕ) : Type 0 where
  pub s : Bool
  pub v : ℕ
  pub is : Is z s v
  pub low : p * U + mi s v * c ≤ pl s v * c + n * U + e * c
  pub high : pl s v * c + n * U ≤ p * U + mi s v * c + e * c

-- ---- whole numbers: a / k is (p - n) / c, and w is within H of a * u / k
small : (a k p n c u B : ℕ) → 0 < c → 0 < k → a * c + n * k ≡ p * k → p * u < n * u + B * c → a * u < B * k
small a k p n c u B C K e h = lt_of_mul-lt-mul_right c (go (ap (λ (z : ℕ). z * u) e) (mul-lt-mul_of_pos_right h K))
  where
    go : (a * c + n * k) * u ≡ p * k * u → p * u * k < (n * u + B * c) * k → a * u * c < B * k * c
    go x y = omega arith

above : (a k p n c u w H : ℕ) → 0 < k → a * c + n * k ≡ p * k → w * k ≤ a * u + H * k → w * c + n * u ≤ p * u + H * c
above a k p n c u w H K e h = le_of_mul-le-mul_right {k = k} (go (ap (λ (z : ℕ). z * u) e) (mul-le-mul_right c h)) K
  where
    go : (a * c + n * k) * u ≡ p * k * u → w * k * c ≤ (a * u + H * k) * c → (w * c + n * u) * k ≤ (p * u + H * c) * k
    go x y = omega arith

below : (a k p n c u w H : ℕ) → 0 < k → a * c + n * k ≡ p * k → a * u ≤ w * k + H * k → p * u ≤ w * c + n * u + H * c
below a k p n c u w H K e h = le_of_mul-le-mul_right {k = k} (go (ap (λ (z : ℕ). z * u) e) (mul-le-mul_right c h)) K
  where
    go : (a * c + n * k) * u ≡ p * k * u → a * u * c ≤ (w * k + H * k) * c → p * u * k ≤ (w * c + n * u + H * c) * k
    go x y = omega arith

-- ---- the law
module _ (z : Float) (p n c h : ℕ) (C : 0 < c) (most : h ≤ 2040) where
  pub rnd_near : Rnd z p n c → p * U < n * U + 2 ^ (54 + h) * c → n * U < p * U + 2 ^ (54 + h) * c → Near z p n c (2 ^ h)
  rnd_near r a b = go r.s r.v r.k r.k_pos r.is r.same
    where
      go : (s : Bool) (v k : ℕ) → 0 < k → z ≡ round binary64 s v k → pl s v * c + n * k ≡ p * k + mi s v * c → Near z p n c (2 ^ h)
      go false v k K i e =
          let e' : v * c + n * k ≡ p * k = plain e in
          let R = round_near false v k h K most (small v k p n c U (2 ^ (54 + h)) C K e' a) in
          record {
            s = false;
            v = R.v;
            is = subst (λ (y : Float). Is y false R.v) (sym i) R.is;
            low = down R.v (below v k p n c U R.v (2 ^ h) K e' R.near.1);
            high = up R.v (above v k p n c U R.v (2 ^ h) K e' R.near.0);
          }
        where
          plain : v * c + n * k ≡ p * k + 0 * c → v * c + n * k ≡ p * k
          plain e = omega arith

          down : (w : ℕ) → p * U ≤ w * c + n * U + 2 ^ h * c → p * U + 0 * c ≤ w * c + n * U + 2 ^ h * c
          down w l = omega arith

          up : (w : ℕ) → w * c + n * U ≤ p * U + 2 ^ h * c → w * c + n * U ≤ p * U + 0 * c + 2 ^ h * c
          up w l = omega arith
      go true v k K i e =
          let e' : v * c + p * k ≡ n * k = plain e in
          let R = round_near true v k h K most (small v k n p c U (2 ^ (54 + h)) C K e' b) in
          record {
            s = true;
            v = R.v;
            is = subst (λ (y : Float). Is y true R.v) (sym i) R.is;
            low = down R.v (above v k n p c U R.v (2 ^ h) K e' R.near.0);
            high = up R.v (below v k n p c U R.v (2 ^ h) K e' R.near.1);
          }
        where
          plain : 0 * c + n * k ≡ p * k + v * c → v * c + p * k ≡ n * k
          plain e = omega arith

          down : (w : ℕ) → w * c + p * U ≤ n * U + 2 ^ h * c → p * U + w * c ≤ 0 * c + n * U + 2 ^ h * c
          down w l = omega arith

          up : (w : ℕ) → n * U ≤ w * c + p * U + 2 ^ h * c → 0 * c + n * U ≤ p * U + w * c + 2 ^ h * c
          up w l = omega arith

-- ---- sums and differences: p - n whole units
pub record NearUnits (z : Float) (p n e : ℕ) : Type 0 where
  pub s : Bool
  pub v : ℕ
  pub is : Is z s v
  pub low : p + mi s v ≤ pl s v + n + e
  pub high : pl s v + n ≤ p + mi s v + e

near_in_units : (z : Float) (p n e : ℕ) → Near z p n U e → NearUnits z p n e
near_in_units z p n e N = record {
  s = N.s;
  v = N.v;
  is = N.is;
  low = le_of_mul-le-mul_right {k = U} (down (pl N.s N.v) (mi N.s N.v) U N.low) U_pos;
  high = le_of_mul-le-mul_right {k = U} (up (pl N.s N.v) (mi N.s N.v) U N.high) U_pos;
}
  where
    down : (a b u : ℕ) → p * u + b * u ≤ a * u + n * u + e * u → (p + b) * u ≤ (a + n + e) * u
    down a b u h = omega arith

    up : (a b u : ℕ) → a * u + n * u ≤ p * u + b * u + e * u → (a + n) * u ≤ (p + b + e) * u
    up a b u h = omega arith

scaled : (a b B u : ℕ) → 0 < u → a < b + B → a * u < b * u + B * u
scaled a b B u P h = go (mul-lt-mul_of_pos_right h P)
  where
    go : a * u < (b + B) * u → a * u < b * u + B * u
    go l = omega arith

module _ (x y : Float) (s t : Bool) (a b h : ℕ) (i : Is x s a) (j : Is y t b) (most : h ≤ 2040) where
  pub add_near : pl s a + pl t b < mi s a + mi t b + 2 ^ (54 + h) → mi s a + mi t b < pl s a + pl t b + 2 ^ (54 + h) → NearUnits (add binary64 x y) (pl s a + pl t b) (mi s a + mi t b) (2 ^ h)
  add_near l m =
      near_in_units (add binary64 x y) (pl s a + pl t b) (mi s a + mi t b) (2 ^ h)
      (rnd_near (add binary64 x y) (pl s a + pl t b) (mi s a + mi t b) U h U_pos most (rnd_add x y s t a b i j)
      (scaled (pl s a + pl t b) (mi s a + mi t b) (2 ^ (54 + h)) U U_pos l) (scaled (mi s a + mi t b) (pl s a + pl t b) (2 ^ (54 + h)) U U_pos m))

  pub sub_near : pl s a + mi t b < mi s a + pl t b + 2 ^ (54 + h) → mi s a + pl t b < pl s a + mi t b + 2 ^ (54 + h) → NearUnits (sub binary64 x y) (pl s a + mi t b) (mi s a + pl t b) (2 ^ h)
  sub_near l m =
      near_in_units (sub binary64 x y) (pl s a + mi t b) (mi s a + pl t b) (2 ^ h)
      (rnd_near (sub binary64 x y) (pl s a + mi t b) (mi s a + pl t b) U h U_pos most (rnd_sub x y s t a b i j)
      (scaled (pl s a + mi t b) (mi s a + pl t b) (2 ^ (54 + h)) U U_pos l) (scaled (mi s a + pl t b) (pl s a + mi t b) (2 ^ (54 + h)) U U_pos m))
