-- The bit pattern of a finite f64, in terms of its value: the sign apart it is `rank v` for v units, below that of an infinity, and in the order of v.
use Rattle.std.proofs.Common.{◌≡◌, ℕ, ◌+◌, ◌-◌, ◌*◌, ◌/◌, ◌^◌, ◌<◌, ◌≤◌, Bool, cond, T, ◌⊎◌, sym, ap, ◌∙◌, subst, inl, inr, le_trans, le_of_eq, lt_of_lt_of_le, lt_of_le_of_lt, le-div_iff_mul-le, not-le_of_lt, div-mul-le_self, arith, pow_pos, pow_mono, pow-add}
use lib.Ieee.{Float, binary64, size, fits, to_bits, of_bits}
use lib.Ieee.Fits.{kept-lt}
use lib.Ieee.Digits.{size-lt, size-le, size_reaches}
use lib.Ieee.Bits.{of_bits-to_bits}
use Rattle.float.proofs.Units.{bits_of, le_or_lt}
use Rattle.float.specs.Units.{Is}

-- the pattern of v units: the exponent's field, less one where there is a leading digit, and the 53 leading digits
unfoldable pub rank : ℕ → ℕ
rank v = (size v - 53) * 2 ^ 52 + v / 2 ^ (size v - 53)

pub bits_rank : (x : Float) (s : Bool) (v : ℕ) → Is x s v → to_bits binary64 x ≡ cond s (2 ^ 63) 0 + rank v
unfolding rank
bits_rank x s v i = bits_of x s v i ∙ group (cond s (2 ^ 63) 0) ((size v - 53) * 2 ^ 52) (v / 2 ^ (size v - 53))
  where
    group : (a b c : ℕ) → a + b + c ≡ a + (b + c)
    group a b c = omega arith

-- ---- bounds
full_digits : (v : ℕ) → 53 ≤ size v → 2 ^ 52 ≤ v / 2 ^ (size v - 53)
full_digits v h = (le-div_iff_mul-le (pow_pos (size v - 53))).1 (le_trans (le_of_eq (sym (pow-add 2 52 (size v - 53)))) (size_reaches v (52 + (size v - 53)) (go (size v) h)))
  where
    go : (z : ℕ) → 53 ≤ z → 52 + (z - 53) < z
    go z h = omega arith

-- a value from 2 ^ 52 units on is normal
pub rank_lo : (v : ℕ) → 2 ^ 52 ≤ v → 2 ^ 52 ≤ rank v
unfolding rank
rank_lo v h = go ((size v - 53) * 2 ^ 52) (v / 2 ^ (size v - 53)) (full_digits v (long (le_or_lt 53 (size v))))
  where
    go : (k d : ℕ) → 2 ^ 52 ≤ d → 2 ^ 52 ≤ k + d
    go k d h = omega arith

    long : (53 ≤ size v) ⊎ (size v < 53) → 53 ≤ size v
    long (inl g) = g
    long (inr g) = absurd (not-le_of_lt (lt_of_lt_of_le (size-lt v) (pow_mono {j = 52} (less (size v) g))) h)
      where
        less : (z : ℕ) → z < 53 → z ≤ 52
        less z g = omega arith

-- 2047 * 2 ^ 52 is the pattern of infinity
pub rank_hi : (v : ℕ) → v < 2 ^ 2098 → rank v < 9218868437227405312
unfolding rank
rank_hi v h = go (size v) (v / 2 ^ (size v - 53)) (size-le v 2098 h) (kept-lt 53 v)
  where
    go : (z d : ℕ) → z ≤ 2098 → d < 2 ^ 53 → (z - 53) * 2 ^ 52 + d < 9218868437227405312
    go z d h l = omega arith

-- ---- order
size_mono : (a b : ℕ) → a ≤ b → size a ≤ size b
size_mono a b h = size-le a (size b) (lt_of_le_of_lt h (size-lt b))

same_place : (a b k : ℕ) → a ≤ b → a / 2 ^ k ≤ b / 2 ^ k
same_place a b k h = (le-div_iff_mul-le (pow_pos k)).1 (le_trans (div-mul-le_self a (2 ^ k)) h)

pub rank_mono : (a b : ℕ) → a ≤ b → rank a ≤ rank b
unfolding rank
rank_mono a b h = go (le_or_lt (size b - 53) (size a - 53))
  where
    level : size a ≤ size b → size b - 53 ≤ size a - 53 → size a - 53 ≡ size b - 53
    level p q = omega arith

    sum : (p q d e : ℕ) → p ≡ q → d ≤ e → p * 2 ^ 52 + d ≤ q * 2 ^ 52 + e
    sum p q d e i l = omega arith

    long : size a - 53 < size b - 53 → 53 ≤ size b
    long l = omega arith

    step : (p q d e : ℕ) → p < q → d < 2 ^ 53 → 2 ^ 52 ≤ e → p * 2 ^ 52 + d ≤ q * 2 ^ 52 + e
    step p q d e l u v = omega arith

    go : (size b - 53 ≤ size a - 53) ⊎ (size a - 53 < size b - 53) → (size a - 53) * 2 ^ 52 + a / 2 ^ (size a - 53) ≤ (size b - 53) * 2 ^ 52 + b / 2 ^ (size b - 53)
    go (inl l) =
        let e : size a - 53 ≡ size b - 53 = level (size_mono a b h) l in
        sum (size a - 53) (size b - 53) (a / 2 ^ (size a - 53)) (b / 2 ^ (size b - 53)) e (subst (λ (k : ℕ). a / 2 ^ (size a - 53) ≤ b / 2 ^ k) e (same_place a b (size a - 53) h))
    go (inr l) = step (size a - 53) (size b - 53) (a / 2 ^ (size a - 53)) (b / 2 ^ (size b - 53)) l (kept-lt 53 a) (full_digits b (long l))

-- one pattern, one value
pub rank_one : (x y : Float) (s : Bool) (a b : ℕ) → T (fits binary64 x) → T (fits binary64 y) → Is x s a → Is y s b → rank a ≡ rank b → x ≡ y
rank_one x y s a b f g i j e =
    sym (of_bits-to_bits binary64 x f)
    ∙ ap (λ (z : ℕ). of_bits binary64 z) (bits_rank x s a i ∙ ap (λ (z : ℕ). cond s (2 ^ 63) 0 + z) e ∙ sym (bits_rank y s b j))
    ∙ of_bits-to_bits binary64 y g
