-- The nearest whole number to a root: a guess that is confirmed in 64 bits, or the root of a whole number; and from there the answer's bits.
use Rattle.std.proofs.Common.{◌≡◌, ℕ, zero, suc, ◌+◌, ◌-◌, ◌*◌, ◌/◌, ◌%◌, ◌^◌, ◌<◌, ◌≤◌, Bool, false, not, T, ◌⊎◌, sym, refl, ap, ◌∙◌, subst, inl, inr, le_trans, le_of_eq, lt_of_lt_of_le, lt_of_le_of_lt, mul-le-mul_right, mul-le-mul, mul-lt-mul_of_pos_right, mul-pos, div-add-mod', not-le_of_lt, arith, lit<, pow_pos}
use lib.Ieee.{Float, nan, inf, fin, binary64, of_bits, fits, is_nan, nan_bits}
use lib.Ieee.Fits.{round-fits}
use lib.Ieee.Bits.{of_bits-fits, nan_bits_is}
use Rattle.float.proofs.Units.{le_or_lt}
use Rattle.root.proofs.WholeRoot.{root_lt, root_ge}
use Rattle.root.specs.Root.{root_units, whole_root}
use Rattle.root.proofs.RootParts.{radicand_lo, radicand_hi, rooted, radicand, expo, result_is, n_is, between, h_lo, e_small}
use Rattle.root.proofs.RootUnique.{one_root}
use Rattle.float.specs.Units.{Is}
use Rattle.root.specs.RootSteps.{WholeRoot, Nearby}
use Rattle.root.proofs.WholeRoot.{whole_root_right}

-- ---- from the root cut to a whole number, twice as fine
pub of_root : (n s : ℕ) → 0 < s → WholeRoot (4 * n) s → Nearby n ((s + 1) / 2)
of_root n s p r = go ((s + 1) / 2) (half s p) (between (4 * n) s (even n) p r)
  where
    even : (n : ℕ) → 4 * n % 2 ≡ 0
    even n = omega arith

    half : (s : ℕ) → 0 < s → 1 ≤ (s + 1) / 2
    half s h = omega arith

    go : (q : ℕ) → 1 ≤ q → ((2 * q - 1) * (2 * q - 1) < 4 * n) × (4 * n < (2 * q + 1) * (2 * q + 1)) → Nearby n q
    go zero h w = absurd (none h)
      where
        none : 1 ≤ 0 → ⊥
        none h = omega arith
    go (suc q) h w = record { less = low (subst (λ (z : ℕ). z * z < 4 * n) (odd q) w.0); more = high w.1 }
      where
        odd : (q : ℕ) → 2 * suc q - 1 ≡ 2 * q + 1
        odd q = omega arith

        low : (2 * q + 1) * (2 * q + 1) < 4 * n → suc q * suc q < n + suc q
        low h = omega arith

        high : 4 * n < (2 * suc q + 1) * (2 * suc q + 1) → n ≤ suc q * suc q + suc q
        high h = omega arith

-- ---- the check: n + p = q * q + l
at_q : (n p q l : ℕ) → n + p ≡ q * q + l → l ≤ p + q → p < l + q → Nearby n q
at_q n p q l e a b = record { less = omega arith; more = omega arith }

at_more : (n p q l : ℕ) → n + p ≡ q * q + l → p + q < l → l ≤ p + 3 * q + 2 → Nearby n (q + 1)
at_more n p q l e a b = record { less = omega arith; more = omega arith }

at_less : (n p q l : ℕ) → n + p ≡ q * q + l → l + q ≤ p → p + 2 < l + 3 * q → Nearby n (q - 1)
at_less n p zero l e a b = absurd (none a b)
  where
    none : l + 0 ≤ p → p + 2 < l + 3 * 0 → ⊥
    none a b = omega arith
at_less n p (suc q) l e a b = subst (Nearby n) (back q) (record { less = low; more = high })
  where
    back : (q : ℕ) → q ≡ suc q - 1
    back q = omega arith

    low : q * q < n + q
    low = omega arith

    high : n ≤ q * q + q
    high = omega arith

-- the halves: q = a * 2 ^ 26 + b
halves : (M a b q r t u : ℕ) → q ≡ a * 67108864 + b → M + 8 ≡ a * a + r → r * 33554432 ≡ a * b + u → M * 2 ^ 52 + (b * b + 36028797018963968) ≡ q * q + u * 134217728
halves M a b q r t u e f g = sum (a * a) (a * b) (b * b) (ap (λ (z : ℕ). z * z) e ∙ square a b) f g
  where
    square : (a b : ℕ) → (a * 67108864 + b) * (a * 67108864 + b) ≡ 4503599627370496 * (a * a) + 134217728 * (a * b) + b * b
    square a b = omega arith

    sum : (A X B : ℕ) → q * q ≡ 4503599627370496 * A + 134217728 * X + B → M + 8 ≡ A + r → r * 33554432 ≡ X + u → M * 2 ^ 52 + (B + 36028797018963968) ≡ q * q + u * 134217728
    sum A X B x y z = omega arith

split : (x y : ℕ) → y ≤ x → x ≡ y + (x - y)
split x y h = omega arith

module _ (m o q : ℕ) where
  abbrev R : ℕ
  R = m * (1 + o) + 8 - q / 67108864 * (q / 67108864)

  abbrev V' : ℕ
  V' = (m * (1 + o) + 8 - q / 67108864 * (q / 67108864)) * 33554432 - q / 67108864 * (q % 67108864)

  pub check : q / 67108864 * (q / 67108864) ≤ m * (1 + o) + 8 → q / 67108864 * (q % 67108864) ≤ R * 33554432
      → m * (1 + o) * 2 ^ 52 + (q % 67108864 * (q % 67108864) + 36028797018963968) ≡ q * q + V' * 134217728
  check h l = halves (m * (1 + o)) (q / 67108864) (q % 67108864) q R 0 V' (sym (div-add-mod' q 67108864)) (split (m * (1 + o) + 8) (q / 67108864 * (q / 67108864)) h) (split (R * 33554432) (q / 67108864 * (q % 67108864)) l)

  pub right_q : q / 67108864 * (q / 67108864) ≤ m * (1 + o) + 8 → q / 67108864 * (q % 67108864) ≤ R * 33554432
      → V' * 134217728 ≤ q % 67108864 * (q % 67108864) + 36028797018963968 + q → q % 67108864 * (q % 67108864) + 36028797018963968 < V' * 134217728 + q → Nearby (m * (1 + o) * 2 ^ 52) q
  right_q h l a b = at_q (m * (1 + o) * 2 ^ 52) (q % 67108864 * (q % 67108864) + 36028797018963968) q (V' * 134217728) (check h l) a b

  pub right_more : q / 67108864 * (q / 67108864) ≤ m * (1 + o) + 8 → q / 67108864 * (q % 67108864) ≤ R * 33554432
      → q % 67108864 * (q % 67108864) + 36028797018963968 + q < V' * 134217728 → V' * 134217728 ≤ q % 67108864 * (q % 67108864) + 36028797018963968 + 3 * q + 2 → Nearby (m * (1 + o) * 2 ^ 52) (q + 1)
  right_more h l a b = at_more (m * (1 + o) * 2 ^ 52) (q % 67108864 * (q % 67108864) + 36028797018963968) q (V' * 134217728) (check h l) a b

  pub right_less : q / 67108864 * (q / 67108864) ≤ m * (1 + o) + 8 → q / 67108864 * (q % 67108864) ≤ R * 33554432
      → V' * 134217728 + q ≤ q % 67108864 * (q % 67108864) + 36028797018963968 → q % 67108864 * (q % 67108864) + 36028797018963968 + 2 < V' * 134217728 + 3 * q → Nearby (m * (1 + o) * 2 ^ 52) (q - 1)
  right_less h l a b = at_less (m * (1 + o) * 2 ^ 52) (q % 67108864 * (q % 67108864) + 36028797018963968) q (V' * 134217728) (check h l) a b

-- ---- what fits in 64 bits
pub small_halves : (q : ℕ) → q ≤ 9007199254740992 → (q / 67108864 * (q / 67108864) ≤ 2 ^ 54) × (q / 67108864 * (q % 67108864) ≤ 2 ^ 53) × (q % 67108864 * (q % 67108864) ≤ 2 ^ 52)
small_halves q h = (mul-le-mul {n₂ = 134217728} {m₂ = 134217728} (high q h) (high q h), mul-le-mul {n₂ = 134217728} {m₂ = 67108864} (high q h) (low q), mul-le-mul {n₂ = 67108864} {m₂ = 67108864} (low q) (low q))
  where
    high : (q : ℕ) → q ≤ 9007199254740992 → q / 67108864 ≤ 134217728
    high q h = omega arith

    low : (q : ℕ) → q % 67108864 ≤ 67108864
    low q = omega arith

pub small_m : (m o : ℕ) → m < 9007199254740992 → o < 2 → m * (1 + o) ≤ 2 ^ 54
small_m m o h l = mul-le-mul {n₂ = 9007199254740992} {m₂ = 2} (weak m h) (two o l)
  where
    weak : (m : ℕ) → m < 9007199254740992 → m ≤ 9007199254740992
    weak m h = omega arith

    two : (o : ℕ) → o < 2 → 1 + o ≤ 2
    two o l = omega arith

-- ---- the answer from the nearest number
module _ (m f : ℕ) (m_lo : 4503599627370496 ≤ m) (m_hi : m < 9007199254740992) (f_lo : 1 ≤ f) (f_hi : f ≤ 2200) (q : ℕ) (N : Nearby (m * (1 + (f + 1) % 2) * 2 ^ 52) q) where
  four : radicand m f * 2 ^ 44 ≡ 4 * (m * (1 + (f + 1) % 2) * 2 ^ 52)
  four = go m ((f + 1) % 2)
    where
      go : (m o : ℕ) → m * (1024 + 1024 * o) * 2 ^ 44 ≡ 4 * (m * (1 + o) * 2 ^ 52)
      go m o = omega arith

  n_lo : 2 ^ 104 ≤ m * (1 + (f + 1) % 2) * 2 ^ 52
  n_lo = mul-le-mul_right (2 ^ 52) (mul-le-mul {n₁ = 4503599627370496} {m₁ = 1} m_lo (one ((f + 1) % 2)))
    where
      one : (o : ℕ) → 1 ≤ 1 + o
      one o = omega arith

  n_hi : m * (1 + (f + 1) % 2) * 2 ^ 52 ≤ 2 ^ 106
  n_hi = mul-le-mul_right (2 ^ 52) (small_m m ((f + 1) % 2) m_hi (bit (f + 1)))
    where
      bit : (a : ℕ) → a % 2 < 2
      bit a = omega arith

  pub q_lo : 2 ^ 52 ≤ q
  q_lo = go (le_or_lt (2 ^ 52) q)
    where
      go : (2 ^ 52 ≤ q) ⊎ (q < 2 ^ 52) → 2 ^ 52 ≤ q
      go (inl h) = h
      go (inr h) = absurd (not-le_of_lt (lt_of_le_of_lt (le_trans (le_of_eq (flat q)) (mul-le-mul {n₂ = 4503599627370495} {m₂ = 4503599627370496} (less q h) h)) (lit< tt)) (le_trans n_lo N.more))
        where
          flat : (q : ℕ) → q * q + q ≡ q * suc q
          flat q = omega arith

          less : (q : ℕ) → q < 4503599627370496 → q ≤ 4503599627370495
          less q h = omega arith

  pub q_hi : q ≤ 2 ^ 53
  q_hi = go (le_or_lt q (2 ^ 53))
    where
      go : (q ≤ 2 ^ 53) ⊎ (2 ^ 53 < q) → q ≤ 2 ^ 53
      go (inl h) = h
      go (inr h) = absurd (clash (q * q) (mul-le-mul_right q h) N.less n_hi h)
        where
          clash : (x : ℕ) → suc (2 ^ 53) * q ≤ x → x < m * (1 + (f + 1) % 2) * 2 ^ 52 + q → m * (1 + (f + 1) % 2) * 2 ^ 52 ≤ 2 ^ 106 → 2 ^ 53 < q → ⊥
          clash x a b c d = over (m * (1 + (f + 1) % 2) * 2 ^ 52) x a b c d
            where
              over : (n x : ℕ) → suc (2 ^ 53) * q ≤ x → x < n + q → n ≤ 2 ^ 106 → 2 ^ 53 < q → ⊥
              over n x a b c d = omega arith

  pub out_is : Is (of_bits binary64 (expo f * 4503599627370496 + q)) false (q * 2 ^ expo f)
  out_is = result_is q (expo f) q_lo q_hi (e_small m f m_lo m_hi f_lo f_hi (whole_root (radicand m f * 2 ^ 44)) (whole_root_right (radicand m f * 2 ^ 44)))

  pub no_nan_out : T (not (nan_bits binary64 (expo f * 4503599627370496 + q)))
  no_nan_out = subst (λ (z : Bool). T (not z)) (sym (nan_bits_is binary64 (expo f * 4503599627370496 + q))) (number (of_bits binary64 (expo f * 4503599627370496 + q)) _ out_is)
    where
      number : (z : Float) (v : ℕ) → Is z false v → T (not (is_nan z))
      number nan v h = absurd h
      number (inf t) v h = absurd h
      number (fin t n e) v h = unfold is_nan in tt

  squares : ((2 * q - 1) * (2 * q - 1) < radicand m f * 2 ^ 44) × (radicand m f * 2 ^ 44 < (2 * q + 1) * (2 * q + 1))
  squares = subst (λ (z : ℕ). ((2 * q - 1) * (2 * q - 1) < z) × (z < (2 * q + 1) * (2 * q + 1))) (sym four) (go q (m * (1 + (f + 1) % 2) * 2 ^ 52) N.less N.more (lt_of_lt_of_le (lit< tt) q_lo))
    where
      go : (q n : ℕ) → q * q < n + q → n ≤ q * q + q → 0 < q → ((2 * q - 1) * (2 * q - 1) < 4 * n) × (4 * n < (2 * q + 1) * (2 * q + 1))
      go zero n a b h = absurd (none h)
        where
          none : 0 < 0 → ⊥
          none h = omega arith
      go (suc k) n a b h = (lt_of_le_of_lt (le_of_eq (ap (λ (z : ℕ). z * z) (odd k))) low, high)
        where
          odd : (k : ℕ) → 2 * suc k - 1 ≡ 2 * k + 1
          odd k = omega arith

          low : (2 * k + 1) * (2 * k + 1) < 4 * n
          low = omega arith

          high : 4 * n < (2 * suc k + 1) * (2 * suc k + 1)
          high = omega arith

  pub near_answer : (v : ℕ) → v * 2 ^ 64 ≡ m * 2 ^ (f - 1) → of_bits binary64 (expo f * 4503599627370496 + q) ≡ root_units v
  near_answer v e =
      let h = radicand m f * 2 ^ 44 in
      let s = whole_root h in
      let r = whole_root_right h in
      let g = 2 ^ expo f in
      let n : v * 2 ^ 1076 ≡ h * (g * g) = n_is m f m_lo m_hi f_lo f_hi s r v e in
      one_root v (of_bits binary64 (expo f * 4503599627370496 + q)) (root_units v) (of_bits-fits binary64 (expo f * 4503599627370496 + q)) (units_fit v)
      (record {
        q = q;
        g = g;
        e = expo f;
        g_is = refl;
        y_is = out_is;
        low = q_lo;
        high = q_hi;
        normal = le_trans (le_of_eq (regroup (2 ^ 53) g)) (le_trans (mul-le-mul_right (g * g) (mul-le-mul_right (2 ^ 44) (h_lo m f m_lo m_hi f_lo f_hi))) (le_of_eq (sym n)));
        above = lt_of_lt_of_le (lt_of_le_of_lt (le_of_eq (regroup (2 * q - 1) g)) (mul-lt-mul_of_pos_right squares.0 (mul-pos (pow_pos (expo f)) (pow_pos (expo f))))) (le_of_eq (sym n));
        below = lt_of_le_of_lt (le_of_eq n) (lt_of_lt_of_le (mul-lt-mul_of_pos_right squares.1 (mul-pos (pow_pos (expo f)) (pow_pos (expo f)))) (le_of_eq (sym (regroup (2 * q + 1) g))));
      })
      (rooted m f m_lo m_hi f_lo f_hi s r v e)
    where
      regroup : (a g : ℕ) → a * g * (a * g) ≡ a * a * (g * g)
      regroup a g = omega arith

      units_fit : (v : ℕ) → T (fits binary64 (root_units v))
      units_fit v = unfold root_units in round-fits binary64 false (whole_root (v * 2 ^ 1076)) (2 ^ 1075)

-- ---- where the guess is not confirmed
pub fallback : (m o s : ℕ) → 4503599627370496 ≤ m → m < 9007199254740992 → o < 2 → WholeRoot (m * (1024 + 1024 * o) * 2 ^ 44) s → (s < 2 ^ 54) × Nearby (m * (1 + o) * 2 ^ 52) ((s + 1) / 2)
fallback m o s a b c r = (
  root_lt (m * (1024 + 1024 * o) * 2 ^ 44) s (2 ^ 54) r (mul-lt-mul_of_pos_right (radicand_hi m o b c) (lit< tt)),
  of_root (m * (1 + o) * 2 ^ 52) s (lt_of_lt_of_le (lit< tt) (root_ge (m * (1024 + 1024 * o) * 2 ^ 44) s (2 ^ 53) r (mul-le-mul_right (2 ^ 44) (radicand_lo m o a)))) (subst (λ (z : ℕ). WholeRoot z s) (go m o) r),
)
  where
    go : (m o : ℕ) → m * (1024 + 1024 * o) * 2 ^ 44 ≡ 4 * (m * (1 + o) * 2 ^ 52)
    go m o = omega arith
