-- The root of what lies near 1: to first order half as far from 1, and what is left is far below half of the last place.
use Rattle.std.proofs.Common.{◌≡◌, ℕ, zero, suc, ◌+◌, ◌-◌, ◌*◌, ◌/◌, ◌%◌, ◌^◌, ◌<◌, ◌≤◌, true, false, not, T, ◌⊎◌, sym, refl, ap, ◌∙◌, subst, inl, inr, true≢false, le_trans, le_of_eq, lt_of_lt_of_le, mul-le-mul, mul-pos, not-le_of_lt, arith, lit<, lit≤, pow_pos}
use mathlib.Core.Bool.{false≢true}
use lib.Ieee.{Float, nan, inf, fin, binary64, fits, to_bits, of_bits, nan_bits, is_nan, up}
use lib.Ieee.Fits.{down_pos}
use Rattle.float.proofs.Units.{le_or_lt, one_number}
use Rattle.root.proofs.RootParts.{expo}
use Rattle.root.proofs.RootNearby.{near_answer}
use Rattle.float.proofs.NotNan.{low_bits}
use Rattle.root.proofs.RootCases.{Above, above_of, x_units, scaled, case_normal}
use Rattle.root.proofs.RootTests.{m_low, m_high, f_low, f_high}
use Rattle.float.specs.Units.{U, Is}
use Rattle.root.specs.Root.{root}
use Rattle.root.specs.RootSteps.{Nearby, Normal}

-- ---- the digits, above 1 and below
square_small : (h : ℕ) → h ≤ 16777216 → h * h ≤ 281474976710656
square_small h l = mul-le-mul {n₂ = 16777216} {m₂ = 16777216} l l

square_large : (h : ℕ) → h ≤ h * h
square_large zero = lit≤ tt
square_large (suc h) = go h (h * h)
  where
    go : (h s : ℕ) → suc h ≤ suc h * suc h
    go h s = omega arith

over : (h r : ℕ) → h ≤ 16777216 → r < 2 → Nearby ((4503599627370496 + (2 * h + r)) * 1 * 2 ^ 52) (4503599627370496 + h)
over h r l o = record { less = go h (h * h) (flat h) (square_small h l); more = back h (h * h) (flat h) }
  where
    flat : (h : ℕ) → (4503599627370496 + h) * (4503599627370496 + h) ≡ 2 ^ 104 + 9007199254740992 * h + h * h
    flat h = omega arith

    go : (h s : ℕ) → (4503599627370496 + h) * (4503599627370496 + h) ≡ 2 ^ 104 + 9007199254740992 * h + s → s ≤ 281474976710656
        → (4503599627370496 + h) * (4503599627370496 + h) < (4503599627370496 + (2 * h + r)) * 1 * 2 ^ 52 + (4503599627370496 + h)
    go h s e b = omega arith

    back : (h s : ℕ) → (4503599627370496 + h) * (4503599627370496 + h) ≡ 2 ^ 104 + 9007199254740992 * h + s
        → (4503599627370496 + (2 * h + r)) * 1 * 2 ^ 52 ≤ (4503599627370496 + h) * (4503599627370496 + h) + (4503599627370496 + h)
    back h s e = omega arith

-- m = 2 ^ 53 - 2 h + r, q = 2 ^ 53 - h
joined : (m q h r s x t : ℕ) → s + x ≡ 9007199254740992 * q → x + t ≡ 9007199254740992 * h → m + h ≡ q + r → s + 9007199254740992 * r ≡ 9007199254740992 * m + t
joined m q h r s x t a b c = omega arith

under_less : (m q r s t : ℕ) → s + 9007199254740992 * r ≡ 9007199254740992 * m + t → t < q → s < m * 2 * 2 ^ 52 + q
under_less m q r s t a b = omega arith

under_more : (m q h r s t : ℕ) → s + 9007199254740992 * r ≡ 9007199254740992 * m + t → r < 2 → h ≤ t → q + h ≡ 9007199254740992 → m * 2 * 2 ^ 52 ≤ s + q
under_more m q h r s t a b c d = omega arith

under : (m q h r : ℕ) → h ≤ 16777216 → r < 2 → q + h ≡ 9007199254740992 → m + h ≡ q + r → Nearby (m * 2 * 2 ^ 52) q
under m q h r l o e f =
    let j = joined m q h r (q * q) (q * h) (h * h) (sum q h e) (cut q h e) f in
    record { less = under_less m q r (q * q) (h * h) j (large q h (h * h) e l (square_small h l)); more = under_more m q h r (q * q) (h * h) j o (square_large h) e }
  where
    sum : (q h : ℕ) → q + h ≡ 9007199254740992 → q * q + q * h ≡ 9007199254740992 * q
    sum q h e = flat q h ∙ ap (λ (z : ℕ). z * q) e
      where
        flat : (q h : ℕ) → q * q + q * h ≡ (q + h) * q
        flat q h = omega arith

    cut : (q h : ℕ) → q + h ≡ 9007199254740992 → q * h + h * h ≡ 9007199254740992 * h
    cut q h e = flat q h ∙ ap (λ (z : ℕ). z * h) e
      where
        flat : (q h : ℕ) → q * h + h * h ≡ (q + h) * h
        flat q h = omega arith

    large : (q h t : ℕ) → q + h ≡ 9007199254740992 → h ≤ 16777216 → t ≤ 281474976710656 → t < q
    large q h t e l b = omega arith

-- ---- the parts of a pattern near that of 1
over_parts : (b : ℕ) → 4607182418800017408 ≤ b → b < 4607182418833571840
    → (b / 4503599627370496 ≡ 1023) × (b % 4503599627370496 + 4503599627370496 ≡ 4503599627370496 + (2 * ((b - 4607182418800017408) / 2) + b % 2)) × ((b - 4607182418800017408) / 2 ≤ 16777216) × (b % 2 < 2)
    × ((b + 4607182418800017408) / 2 ≡ 1022 * 4503599627370496 + (4503599627370496 + (b - 4607182418800017408) / 2))
over_parts b l h = (omega arith, omega arith, omega arith, omega arith, omega arith)

under_parts : (b : ℕ) → 4607182418766462976 ≤ b → b < 4607182418800017408
    → (b / 4503599627370496 ≡ 1022) × ((4607182418800017408 - b + 1) / 2 ≤ 16777216) × (b % 2 < 2)
    × (9007199254740992 - (4607182418800017408 - b + 1) / 2 + (4607182418800017408 - b + 1) / 2 ≡ 9007199254740992)
    × (b % 4503599627370496 + 4503599627370496 + (4607182418800017408 - b + 1) / 2 ≡ 9007199254740992 - (4607182418800017408 - b + 1) / 2 + b % 2)
    × ((b + 4607182418800017408) / 2 ≡ 1021 * 4503599627370496 + (9007199254740992 - (4607182418800017408 - b + 1) / 2))
under_parts b l h = (omega arith, omega arith, omega arith, omega arith, omega arith, omega arith)

-- what the digits of a pattern near that of 1 are worth, as a pattern
pub record Digits (b : ℕ) : Type 0 where
  pub q : ℕ
  pub near : Nearby ((b % 4503599627370496 + 4503599627370496) * (1 + (b / 4503599627370496 + 64 + 1) % 2) * 2 ^ 52) q
  pub is : (b + 4607182418800017408) / 2 ≡ expo (b / 4503599627370496 + 64) * 4503599627370496 + q

over_digits : (b : ℕ) → 4607182418800017408 ≤ b → b < 4607182418833571840 → Digits b
over_digits b l h =
    let p = over_parts b l h in
    let d = (b - 4607182418800017408) / 2 in
    record {
      q = 4503599627370496 + d;
      near = subst (λ (z : ℕ). Nearby ((b % 4503599627370496 + 4503599627370496) * (1 + (z + 64 + 1) % 2) * 2 ^ 52) (4503599627370496 + d)) (sym p.0) (subst (λ (z : ℕ). Nearby (z * 1 * 2 ^ 52) (4503599627370496 + d)) (sym p.1) (over d (b % 2) p.2 p.3));
      is = p.4 ∙ ap (λ (z : ℕ). expo (z + 64) * 4503599627370496 + (4503599627370496 + d)) (sym p.0);
    }

under_digits : (b : ℕ) → 4607182418766462976 ≤ b → b < 4607182418800017408 → Digits b
under_digits b l h =
    let p = under_parts b l h in
    let d = (4607182418800017408 - b + 1) / 2 in
    record {
      q = 9007199254740992 - d;
      near = subst (λ (z : ℕ). Nearby ((b % 4503599627370496 + 4503599627370496) * (1 + (z + 64 + 1) % 2) * 2 ^ 52) (9007199254740992 - d)) (sym p.0) (under (b % 4503599627370496 + 4503599627370496) (9007199254740992 - d) d (b % 2) p.1 p.2 p.3 p.4);
      is = p.5 ∙ ap (λ (z : ℕ). expo (z + 64) * 4503599627370496 + (9007199254740992 - d)) (sym p.0);
    }

module _ (b : ℕ) (l : 4607182418766462976 ≤ b) (h : b < 4607182418833571840) where
  pub digits : Digits b
  digits = go (le_or_lt 4607182418800017408 b)
    where
      go : (4607182418800017408 ≤ b) ⊎ (b < 4607182418800017408) → Digits b
      go (inl p) = over_digits b p h
      go (inr p) = under_digits b l p

  pub lo : 4503599627370496 ≤ b
  lo = omega arith

  pub hi : b < 9218868437227405312
  hi = omega arith

  pub no_nan_near : (n : ℕ) → n ≤ 4607182418800019999 → T (not (nan_bits binary64 ((b + n) / 2)))
  no_nan_near n k = low_bits ((b + n) / 2) (go b n h k)
    where
      go : (b n : ℕ) → b < 4607182418833571840 → n ≤ 4607182418800019999 → (b + n) / 2 ≤ 9218868437227405312
      go b n h k = omega arith

  pub sum_room : (n : ℕ) → n ≤ 4607182418800019999 → b + n < 2 ^ 64
  sum_room n k = omega arith

-- ---- the value
above_is : (x : Float) → T (fits binary64 x) → (w : ℕ) → Is x false w → 0 < w → Above x
above_is nan t w i p = absurd i
above_is (inf s) t w i p = absurd i
above_is (fin true m e) t w i p = absurd (true≢false i.0)
above_is (fin false zero e) t w i p = absurd (not-le_of_lt (mul-pos p (down_pos e)) (le_of_eq (sym i.1 ∙ none (up e) U)))
  where
    none : (a u : ℕ) → 0 * a * u ≡ 0
    none a u = omega arith
above_is (fin false (suc m) e) t w i p = above_of m e t

pub near_root : (x : Float) → T (fits binary64 x) → 4607182418766462976 ≤ to_bits binary64 x → to_bits binary64 x < 4607182418833571840 → of_bits binary64 ((to_bits binary64 x + 4607182418800017408) / 2) ≡ root x
near_root x t l h =
    let b = to_bits binary64 x in
    let m = b % 4503599627370496 + 4503599627370496 in
    let f = b / 4503599627370496 in
    let low = lo b l h in
    let high = hi b l h in
    let i = x_units x t b refl low high in
    let w-low : 2 ^ 52 ≤ m * 2 ^ (f - 1) = mul-le-mul {n₁ = 4503599627370496} {m₁ = 1} (m_low b 64 low high (lit≤ tt)) (pow_pos (f - 1)) in
    let A = above_is x t (m * 2 ^ (f - 1)) i (lt_of_lt_of_le (lit< tt) w-low) in
    let same = (one_number x false false A.v (m * 2 ^ (f - 1)) A.is i).1 in
    let N : Normal x = record { w = A.v; is = A.is; low = le_trans w-low (le_of_eq (sym same)); high = A.high } in
    let D = digits b l h in
    case_normal x A (of_bits binary64 ((b + 4607182418800017408) / 2))
    (scaled x t N 64 (of_bits binary64 ((b + 4607182418800017408) / 2))
    (λ v e. ap (λ (z : ℕ). of_bits binary64 z) D.is ∙ near_answer m (f + 64) (m_low b 64 low high (lit≤ tt)) (m_high b 64 low high (lit≤ tt)) (f_low b 64 low high (lit≤ tt)) (f_high b 64 low high (lit≤ tt)) D.q D.near v e))

pub nan_root : (x : Float) → is_nan x ≡ true → x ≡ root x
unfolding root is_nan
nan_root nan h = refl
nan_root (inf s) h = absurd (false≢true h)
nan_root (fin s m e) h = absurd (false≢true h)
