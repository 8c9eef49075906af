-- A rounded fraction is within 2 ^ -50 of it, relatively, and a unit, wherever the result is finite: one rule for every
-- size, up to the largest. `round_near` (Rounding) is finer, but stops at 2 ^ 1020.
use Rattle.std.proofs.Common.{◌≡◌, ℕ, ◌+◌, ◌-◌, ◌*◌, ◌/◌, ◌%◌, ◌^◌, ◌<◌, ◌≤◌, true, false, T, ◌⊎◌, sym, subst, inl, inr, le_trans, lt_of_lt_of_le, mul-le-mul_right, div-lt_iff_lt-mul, div-add-mod', le_of_mul-le-mul_right, arith, pow_mono, pow-add}
use lib.Ieee.{Float, nan, inf, fin, binary64, size, round, add}
use lib.Ieee.Digits.{size-lt, size_reaches}
use lib.Ieee.Scale.{finite, grid, round_under, round_val}
use Rattle.float.specs.Units.{U, Is}
use Rattle.float.proofs.Units.{le_or_lt}
use Rattle.float.proofs.Rounding.{Within, U_pos, round_within, add_is}

-- |v - n / c| ≤ n / c / 2 ^ 50 + 1
pub record Relative (v n c : ℕ) : Type 0 where
  pub high : 2 ^ 50 * (v * c) ≤ 2 ^ 50 * n + n + 2 ^ 50 * c
  pub low : 2 ^ 50 * n ≤ 2 ^ 50 * (v * c) + n + 2 ^ 50 * c

pub relative_scale : (v n c k : ℕ) → 0 < k → Relative v (n * k) (c * k) → Relative v n c
relative_scale v n c k K r = record { high = le_of_mul-le-mul_right {k = k} (up r.high) K; low = le_of_mul-le-mul_right {k = k} (down r.low) K }
  where
    up : 2 ^ 50 * (v * (c * k)) ≤ 2 ^ 50 * (n * k) + n * k + 2 ^ 50 * (c * k) → (2 ^ 50 * (v * c)) * k ≤ (2 ^ 50 * n + n + 2 ^ 50 * c) * k
    up h = omega arith

    down : 2 ^ 50 * (n * k) ≤ 2 ^ 50 * (v * (c * k)) + n * k + 2 ^ 50 * (c * k) → (2 ^ 50 * n) * k ≤ (2 ^ 50 * (v * c) + n + 2 ^ 50 * c) * k
    down h = omega arith

-- h digits are dropped: 2 ^ h is at most n / c / 2 ^ 52, or 1
dropped : (n c : ℕ) → 0 < c → (h : ℕ) × (n < 2 ^ (54 + h) * c) × (2 ^ 50 * (2 ^ h * c) ≤ n + 2 ^ 50 * c)
dropped n c C = go (le_or_lt (size (n / c)) 53)
  where
    below : (k : ℕ) → size (n / c) ≤ k → n < 2 ^ k * c
    below k h = (div-lt_iff_lt-mul C).0 (lt_of_lt_of_le (size-lt (n / c)) (pow_mono h))

    whole : n / c * c ≤ n
    whole = at (n / c * c) (n % c) (div-add-mod' n c)
      where
        at : (q r : ℕ) → q + r ≡ n → q ≤ n
        at q r e = omega arith

    go : (size (n / c) ≤ 53) ⊎ (53 < size (n / c)) → (h : ℕ) × (n < 2 ^ (54 + h) * c) × (2 ^ 50 * (2 ^ h * c) ≤ n + 2 ^ 50 * c)
    go (inl l) = (0, below 54 (more (size (n / c)) l), few n c)
      where
        more : (z : ℕ) → z ≤ 53 → z ≤ 54
        more z l = omega arith

        few : (n c : ℕ) → 2 ^ 50 * (1 * c) ≤ n + 2 ^ 50 * c
        few n c = omega arith
    go (inr l) = (size (n / c) - 54, below (54 + (size (n / c) - 54)) (same (size (n / c)) l), large)
      where
        same : (z : ℕ) → 53 < z → z ≤ 54 + (z - 54)
        same z l = omega arith

        one_less : (z : ℕ) → 53 < z → 53 + (z - 54) < z
        one_less z l = omega arith

        reached : 2 ^ 53 * 2 ^ (size (n / c) - 54) ≤ n / c
        reached = subst (λ (z : ℕ). z ≤ n / c) (pow-add 2 53 (size (n / c) - 54)) (size_reaches (n / c) (53 + (size (n / c) - 54)) (one_less (size (n / c)) l))

        large : 2 ^ 50 * (2 ^ (size (n / c) - 54) * c) ≤ n + 2 ^ 50 * c
        large = at (2 ^ (size (n / c) - 54)) (le_trans (mul-le-mul_right c reached) whole)
          where
            at : (H : ℕ) → 2 ^ 53 * H * c ≤ n → 2 ^ 50 * (H * c) ≤ n + 2 ^ 50 * c
            at H k = omega arith

relative_of : (v n c h : ℕ) → Within v n c h → 2 ^ 50 * (h * c) ≤ n + 2 ^ 50 * c → Relative v n c
relative_of v n c h w l = record { high = up (v * c) (h * c) w.0 l; low = down (v * c) (h * c) w.1 l }
  where
    up : (x y : ℕ) → x ≤ n + y → 2 ^ 50 * y ≤ n + 2 ^ 50 * c → 2 ^ 50 * x ≤ 2 ^ 50 * n + n + 2 ^ 50 * c
    up x y a b = omega arith

    down : (x y : ℕ) → n ≤ x + y → 2 ^ 50 * y ≤ n + 2 ^ 50 * c → 2 ^ 50 * n ≤ 2 ^ 50 * x + n + 2 ^ 50 * c
    down x y a b = omega arith

pub record RoundedTo (x : Float) (n c : ℕ) : Type 0 where
  pub v : ℕ
  pub is : Is x false v
  pub near : Relative v n c

-- a / c in units is a * U / c
pub round_relative : (a c : ℕ) → 0 < c → T (finite (round binary64 false a c)) → RoundedTo (round binary64 false a c) (a * U) c
unfolding U
round_relative a c C f =
    let d = dropped (a * 2 ^ 1074) c C in
    record {
      v = grid binary64 a c;
      is = round_val binary64 a c (round_under binary64 a c f);
      near = relative_of (grid binary64 a c) (a * 2 ^ 1074) c (2 ^ d.0) (round_within a c d.0 C d.1) d.2;
    }

-- ---- sums of two numbers that are not negative
pub sum_relative : (x y : Float) (a b : ℕ) → Is x false a → Is y false b → T (finite (add binary64 x y)) → RoundedTo (add binary64 x y) ((a + b) * U) U
sum_relative x y a b i j f =
    let e = add_is x y false a b i j in
    subst (λ (z : Float). RoundedTo z ((a + b) * U) U) (sym e) (round_relative (a + b) U U_pos (subst (λ (z : Float). T (finite z)) e f))

-- a finite sum has finite parts
pub sum_finite : (a b : Float) → T (finite (add binary64 a b)) → T (finite a) × T (finite b)
unfolding add
sum_finite nan b h = absurd h
sum_finite (inf s) nan h = absurd h
sum_finite (inf true) (inf true) h = absurd h
sum_finite (inf true) (inf false) h = absurd h
sum_finite (inf false) (inf true) h = absurd h
sum_finite (inf false) (inf false) h = absurd h
sum_finite (inf s) (fin t n d) h = absurd h
sum_finite (fin s m e) nan h = absurd h
sum_finite (fin s m e) (inf t) h = absurd h
sum_finite (fin s m e) (fin t n d) h = (tt, tt)
