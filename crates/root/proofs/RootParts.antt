-- The root of m * 2 ^ f, rounded, from 54 digits of the root of a whole number.
use Rattle.std.proofs.Common.{◌≡◌, ℕ, zero, suc, ◌+◌, ◌-◌, ◌*◌, ◌/◌, ◌%◌, ◌^◌, ◌<◌, ◌≤◌, false, ◌⊎◌, sym, refl, ap, ◌∙◌, subst, inl, inr, le_trans, le_of_eq, lt_of_lt_of_le, lt_of_le_of_lt, mul-le-mul_right, mul_assoc, mul-le-mul, le_antisymm, lt_of_mul-lt-mul_right, mul-lt-mul_of_pos_right, mul-pos, not-le_of_lt, arith, lit<, pow_pos, pow_mono, pow-add}
use native.Mathlib.Nat.{pow-succ'}
use lib.Ieee.{Float, nan, inf, fin, binary64, size, units, round, to_bits, of_bits, fits, is_nan, nan_bits}
use lib.Ieee.Digits.{size-lt, size-le}
use lib.Ieee.Fits.{round_is}
use lib.Ieee.Exact.{HasValue, units_val}
use lib.Ieee.Nearest.{closest, closest_same}
use Rattle.float.proofs.Rounding.{closest_within}
use Rattle.float.proofs.Fields.{fields_is}
use Rattle.float.proofs.Units.{le_or_lt}
use Rattle.root.proofs.WholeRoot.{root_lt, root_ge}
use Rattle.root.specs.Root.{whole_root, root_units, Rooted}
use Rattle.float.specs.Units.{U, Is}
use Rattle.root.specs.RootSteps.{WholeRoot}
use Rattle.root.proofs.WholeRoot.{whole_root_right}

-- ---- S / (2 g) to the nearest whole number, S the whole root of h * g * g, from s, the whole root of an even h
odd_square : (h s q : ℕ) → h % 2 ≡ 0 → s ≡ 2 * q + 1 → s * s ≤ h → s * s + 1 ≤ h
odd_square h s q e f l = go (s * s) (q * q + q) l (ap (λ (z : ℕ). z * z) f ∙ flat q)
  where
    flat : (k : ℕ) → (2 * k + 1) * (2 * k + 1) ≡ 4 * (k * k + k) + 1
    flat k = omega arith

    go : (x y : ℕ) → x ≤ h → x ≡ 4 * y + 1 → x + 1 ≤ h
    go x y l k = omega arith

module _ (n h g S s : ℕ) (n_is : n ≡ h * (g * g)) (even : h % 2 ≡ 0) (rn : WholeRoot n S) (rh : WholeRoot h s) (wide : 2 * s + 1 ≤ g) where
  g_pos : 0 < g
  g_pos = go s wide
    where
      go : (s : ℕ) → 2 * s + 1 ≤ g → 0 < g
      go s h = omega arith

  pub cut_lo : s * g ≤ S
  cut_lo = root_ge n S (s * g) rn (le_trans (le_of_eq (flat s g)) (le_trans (mul-le-mul_right (g * g) rh.below) (le_of_eq (sym n_is))))
    where
      flat : (s g : ℕ) → s * g * (s * g) ≡ s * s * (g * g)
      flat s g = omega arith

  pub cut_hi : S < (s + 1) * g
  cut_hi = root_lt n S ((s + 1) * g) rn (lt_of_le_of_lt (le_of_eq n_is) (lt_of_lt_of_le (mul-lt-mul_of_pos_right rh.above (mul-pos g_pos g_pos)) (le_of_eq (flat (s + 1) g))))
    where
      flat : (s g : ℕ) → s * s * (g * g) ≡ s * g * (s * g)
      flat s g = omega arith

  cut_more : (q : ℕ) → s ≡ 2 * q + 1 → s * g + 1 ≤ S
  cut_more q e = root_ge n S (s * g + 1) rn (le_trans (room s g (mul-le-mul_right g wide) g_pos) (le_trans (mul-le-mul_right (g * g) (odd_square h s q even e rh.below)) (le_of_eq (sym n_is))))
    where
      room : (s g : ℕ) → (2 * s + 1) * g ≤ g * g → 0 < g → (s * g + 1) * (s * g + 1) ≤ (s * s + 1) * (g * g)
      room s g a b = omega arith

  within : (2 * (closest S (2 * g) * (2 * g)) ≤ 2 * S + 2 * g) × (2 * S ≤ 2 * (closest S (2 * g) * (2 * g)) + 2 * g)
  within = closest_within S (2 * g) (two g g_pos)
    where
      two : (g : ℕ) → 0 < g → 0 < 2 * g
      two g h = omega arith

  at_even : (c q : ℕ) → s ≡ 2 * q → (2 * (c * (2 * g)) ≤ 2 * S + 2 * g) → (2 * S ≤ 2 * (c * (2 * g)) + 2 * g) → c ≡ q
  at_even c q e a b =
      let e' : s * g ≡ 2 * q * g = ap (λ (z : ℕ). z * g) e in
      let lo : q < c + 1 = lt_of_mul-lt-mul_right (2 * g) (less e' b cut_lo g_pos) in
      let hi : c < q + 1 = lt_of_mul-lt-mul_right (2 * g) (more e' a cut_hi) in
      same lo hi
    where
      less : s * g ≡ 2 * q * g → 2 * S ≤ 2 * (c * (2 * g)) + 2 * g → s * g ≤ S → 0 < g → q * (2 * g) < (c + 1) * (2 * g)
      less a b c d = omega arith

      more : s * g ≡ 2 * q * g → 2 * (c * (2 * g)) ≤ 2 * S + 2 * g → S < (s + 1) * g → c * (2 * g) < (q + 1) * (2 * g)
      more a b c = omega arith

      same : q < c + 1 → c < q + 1 → c ≡ q
      same a b = omega arith

  at_odd : (c q : ℕ) → s ≡ 2 * q + 1 → (2 * (c * (2 * g)) ≤ 2 * S + 2 * g) → (2 * S ≤ 2 * (c * (2 * g)) + 2 * g) → c ≡ q + 1
  at_odd c q e a b =
      let e' : s * g ≡ (2 * q + 1) * g = ap (λ (z : ℕ). z * g) e in
      let lo : q < c = lt_of_mul-lt-mul_right (2 * g) (less e' b (cut_more q e)) in
      let hi : c < q + 2 = lt_of_mul-lt-mul_right (2 * g) (more e' a cut_hi g_pos) in
      same lo hi
    where
      less : s * g ≡ (2 * q + 1) * g → 2 * S ≤ 2 * (c * (2 * g)) + 2 * g → s * g + 1 ≤ S → q * (2 * g) < c * (2 * g)
      less a b c = omega arith

      more : s * g ≡ (2 * q + 1) * g → 2 * (c * (2 * g)) ≤ 2 * S + 2 * g → S < (s + 1) * g → 0 < g → c * (2 * g) < (q + 2) * (2 * g)
      more a b c d = omega arith

      same : q < c → c < q + 2 → c ≡ q + 1
      same a b = omega arith

  pub nearest_root : closest S (2 * g) ≡ (s + 1) / 2
  nearest_root = go (s % 2) refl
    where
      even_is : (s : ℕ) → s % 2 ≡ 0 → (s ≡ 2 * (s / 2)) × (s / 2 ≡ (s + 1) / 2)
      even_is s e = (omega arith, omega arith)

      odd_is : (s b : ℕ) → s % 2 ≡ suc b → (s ≡ 2 * (s / 2) + 1) × (s / 2 + 1 ≡ (s + 1) / 2)
      odd_is s b e = (omega arith, omega arith)

      go : (b : ℕ) → s % 2 ≡ b → closest S (2 * g) ≡ (s + 1) / 2
      go zero e = at_even (closest S (2 * g)) (s / 2) (even_is s e).0 within.0 within.1 ∙ (even_is s e).1
      go (suc b) e = at_odd (closest S (2 * g)) (s / 2) (odd_is s b e).0 within.0 within.1 ∙ (odd_is s b e).1

-- ---- `round` of S halves of a unit, S from 2 ^ (53 + e) up to 2 ^ (54 + e): its value is the nearest number of 2 ^ e units
size_at : (w z : ℕ) → 2 ^ z ≤ w → w < 2 ^ suc z → size w ≡ suc z
size_at w z a b = le_antisymm (size-le w (suc z) b) (go (le_or_lt (suc z) (size w)))
  where
    go : (suc z ≤ size w) ⊎ (size w < suc z) → suc z ≤ size w
    go (inl h) = h
    go (inr h) = absurd (not-le_of_lt (lt_of_lt_of_le (size-lt w) (pow_mono (less h))) a)
      where
        less : size w < suc z → size w ≤ z
        less h = omega arith

twice : (u : ℕ) → 0 < u → 0 < 2 * u
twice u h = omega arith

half_units : (S u : ℕ) → 0 < u → S * u / (2 * u) ≡ S / 2
half_units S u P = lib.Ieee.Nearest.div_same (S * u) (2 * u) S 2 (twice u P) (lit< tt) (flat S u)
  where
    flat : (S u : ℕ) → S * u * 2 ≡ S * (2 * u)
    flat S u = omega arith

pub round_halves : (S e c : ℕ) → 2 ^ (53 + e) ≤ S → S < 2 ^ (54 + e) → closest S (2 * 2 ^ e) ≡ c → c * 2 ^ e < 2 ^ 2098 → Is (round binary64 false S (2 ^ 1075)) false (c * 2 ^ e)
unfolding U
round_halves S e c lo hi near fine =
    let k : size (S * 2 ^ 1074 / 2 ^ 1075) ≡ 53 + e =
    ap size (half_units S (2 ^ 1074) (pow_pos 1074))
    ∙ size_at (S / 2) (52 + e) (halved S (2 ^ (52 + e)) (le_trans (le_of_eq (sym (pow-succ' 2 (52 + e)) ∙ ap (λ (z : ℕ). 2 ^ z) (next e))) lo))
    (halved' S (2 ^ suc (52 + e)) (lt_of_lt_of_le hi (le_of_eq (ap (λ (z : ℕ). 2 ^ z) (next2 e) ∙ pow-succ' 2 (suc (52 + e))))))
    ∙ next e in
    let d : size (S * 2 ^ 1074 / 2 ^ 1075) - 53 ≡ e = ap (λ (z : ℕ). z - 53) k ∙ back e in
    let q : closest (S * 2 ^ 1074) (2 ^ 1075 * 2 ^ e) ≡ c = closest_same (S * 2 ^ 1074) (2 ^ 1075 * 2 ^ e) S (2 * 2 ^ e) (mul-pos (pow_pos 1075) (pow_pos e)) (twice (2 ^ e) (pow_pos e)) (flat S (2 ^ 1074) (2 ^ e)) ∙ near in
    subst (λ (z : Float). HasValue z false (c * 2 ^ e) (2 ^ 1074))
    (sym (round_is binary64 false S (2 ^ 1075) ∙ ap (λ (z : ℕ). units binary64 false (closest (S * 2 ^ 1074) (2 ^ 1075 * 2 ^ z)) z) d ∙ ap (λ (z : ℕ). units binary64 false z e) q))
    (units_val binary64 false c e fine)
  where
    next : (e : ℕ) → suc (52 + e) ≡ 53 + e
    next e = omega arith

    next2 : (e : ℕ) → 54 + e ≡ suc (suc (52 + e))
    next2 e = omega arith

    back : (e : ℕ) → 53 + e - 53 ≡ e
    back e = omega arith

    halved : (S p : ℕ) → 2 * p ≤ S → p ≤ S / 2
    halved S p h = omega arith

    halved' : (S p : ℕ) → S < 2 * p → S / 2 < p
    halved' S p h = omega arith

    flat : (S u g : ℕ) → S * u * (2 * g) ≡ S * (2 * u * g)
    flat S u g = omega arith

-- ---- the exponents: v is m * 2 ^ (f - 65) units, and 2 e = f + 957 - o
exponents : (f o : ℕ) → 1 ≤ f → f ≤ 2200 → o ≡ (f + 1) % 2 → (2 * ((f + 955 - o) / 2 + 1) ≡ f + 957 - o) × (o < 2) × (56 ≤ (f + 955 - o) / 2 + 1) × ((f + 955 - o) / 2 + 1 < 2000)
exponents f o h l e = (omega arith, omega arith, omega arith, omega arith)

two_factor : (o : ℕ) → o < 2 → 1024 + 1024 * o ≡ 2 ^ (10 + o)
two_factor zero h = refl
two_factor (suc zero) h = refl
two_factor (suc (suc o)) h = absurd (none o h)
  where
    none : (o : ℕ) → suc (suc o) < 2 → ⊥
    none o h = omega arith

scale_eq : (v m f o e : ℕ) → 1 ≤ f → o < 2 → 2 * e ≡ f + 957 - o → v * 2 ^ 64 ≡ m * 2 ^ (f - 1) → v * 2 ^ 1076 ≡ m * (1024 + 1024 * o) * 2 ^ 44 * (2 ^ e * 2 ^ e)
scale_eq v m f o e h l k w =
    ap (λ (z : ℕ). v * z) (pow-add 2 64 1012) ∙ sym (mul_assoc v (2 ^ 64) (2 ^ 1012)) ∙ ap (λ (z : ℕ). z * 2 ^ 1012) w ∙ mul_assoc m (2 ^ (f - 1)) (2 ^ 1012)
    ∙ ap (λ (z : ℕ). m * z) (sym (pow-add 2 (f - 1) 1012) ∙ ap (λ (z : ℕ). 2 ^ z) (same f o e h l k) ∙ pow-add 2 (10 + o) (44 + (e + e)) ∙ ap (λ (z : ℕ). 2 ^ (10 + o) * z) (pow-add 2 44 (e + e) ∙ ap (λ (z : ℕ). 2 ^ 44 * z) (pow-add 2 e e)))
    ∙ right m (2 ^ (10 + o)) (2 ^ 44) (2 ^ e * 2 ^ e) ∙ ap (λ (z : ℕ). m * z * 2 ^ 44 * (2 ^ e * 2 ^ e)) (sym (two_factor o l))
  where
    right : (m a b c : ℕ) → m * (a * (b * c)) ≡ m * a * b * c
    right m a b c = omega arith

    same : (f o e : ℕ) → 1 ≤ f → o < 2 → 2 * e ≡ f + 957 - o → f - 1 + 1012 ≡ 10 + o + (44 + (e + e))
    same f o e h l k = omega arith

-- ---- the answer's bits
pub result_is : (q e : ℕ) → 2 ^ 52 ≤ q → q ≤ 2 ^ 53 → e < 2000 → Is (of_bits binary64 (e * 4503599627370496 + q)) false (q * 2 ^ e)
result_is q e l h k = go (q - 2 ^ 52) (apart q l) (le_or_lt (2 ^ 52) (q - 2 ^ 52))
  where
    apart : (q : ℕ) → 2 ^ 52 ≤ q → q ≡ 2 ^ 52 + (q - 2 ^ 52)
    apart q l = omega arith

    go : (t : ℕ) → q ≡ 2 ^ 52 + t → (2 ^ 52 ≤ t) ⊎ (t < 2 ^ 52) → Is (of_bits binary64 (e * 4503599627370496 + q)) false (q * 2 ^ e)
    go t a (inr b) =
        subst (λ (z : ℕ). Is (of_bits binary64 z) false (q * 2 ^ e)) (sum e q t a) (subst (λ (z : ℕ). Is (of_bits binary64 (suc e * 2 ^ 52 + t)) false (z * 2 ^ e)) (sym a) (fields_is e t b (fine e k)))
      where
        sum : (e q t : ℕ) → q ≡ 2 ^ 52 + t → suc e * 2 ^ 52 + t ≡ e * 4503599627370496 + q
        sum e q t a = omega arith

        fine : (e : ℕ) → e < 2000 → suc e < 2047
        fine e k = omega arith
    go t a (inl b) =
        subst (λ (z : ℕ). Is (of_bits binary64 z) false (q * 2 ^ e)) (sum e q t a b h) (subst (λ (z : ℕ). Is (of_bits binary64 (suc (suc e) * 2 ^ 52 + 0)) false z) (double q t a b h) (fields_is (suc e) 0 (lit< tt) (fine e k)))
      where
        sum : (e q t : ℕ) → q ≡ 2 ^ 52 + t → 2 ^ 52 ≤ t → q ≤ 2 ^ 53 → suc (suc e) * 2 ^ 52 + 0 ≡ e * 4503599627370496 + q
        sum e q t a b h = omega arith

        fine : (e : ℕ) → e < 2000 → suc (suc e) < 2047
        fine e k = omega arith

        double : (q t : ℕ) → q ≡ 2 ^ 52 + t → 2 ^ 52 ≤ t → q ≤ 2 ^ 53 → (2 ^ 52 + 0) * 2 ^ suc e ≡ q * 2 ^ e
        double q t a b h = ap (λ (z : ℕ). (2 ^ 52 + 0) * z) (pow-succ' 2 e) ∙ flat (2 ^ e) ∙ ap (λ (z : ℕ). z * 2 ^ e) (top q t a b h)
          where
            flat : (x : ℕ) → (2 ^ 52 + 0) * (2 * x) ≡ 2 ^ 53 * x
            flat x = omega arith

            top : (q t : ℕ) → q ≡ 2 ^ 52 + t → 2 ^ 52 ≤ t → q ≤ 2 ^ 53 → 2 ^ 53 ≡ q
            top q t a b h = omega arith

-- ---- half of s, rounded, between the two neighbours: n is even
pub between : (n s : ℕ) → n % 2 ≡ 0 → 0 < s → WholeRoot n s → ((2 * ((s + 1) / 2) - 1) * (2 * ((s + 1) / 2) - 1) < n) × (n < (2 * ((s + 1) / 2) + 1) * (2 * ((s + 1) / 2) + 1))
between n s e p r = go ((s + 1) / 2) (cases s p)
  where
    cases : (s : ℕ) → 0 < s → (s ≡ 2 * ((s + 1) / 2)) ⊎ (s ≡ 2 * ((s + 1) / 2) - 1)
    cases s p = half (s % 2) refl
      where
        half : (b : ℕ) → s % 2 ≡ b → (s ≡ 2 * ((s + 1) / 2)) ⊎ (s ≡ 2 * ((s + 1) / 2) - 1)
        half zero f = inl (omega arith)
        half (suc b) f = inr (omega arith)

    go : (q : ℕ) → (s ≡ 2 * q) ⊎ (s ≡ 2 * q - 1) → ((2 * q - 1) * (2 * q - 1) < n) × (n < (2 * q + 1) * (2 * q + 1))
    go q (inl f) = (lt_of_lt_of_le (less (2 * q) (subst (λ (z : ℕ). 0 < z) f p)) (subst (λ (z : ℕ). z * z ≤ n) f r.below), subst (λ (z : ℕ). n < (z + 1) * (z + 1)) f r.above)
      where
        less : (z : ℕ) → 0 < z → (z - 1) * (z - 1) < z * z
        less zero h = absurd (none h)
          where
            none : 0 < 0 → ⊥
            none h = omega arith
        less (suc z) h = lt_of_le_of_lt (le_of_eq (ap (λ (y : ℕ). y * y) (one z))) (more z)
          where
            one : (z : ℕ) → suc z - 1 ≡ z
            one z = omega arith

            more : (z : ℕ) → z * z < suc z * suc z
            more z = omega arith
    go q (inr f) = (strict (2 * q - 1) (subst (λ (z : ℕ). z * z ≤ n) f r.below) (odd (2 * q - 1) (subst (λ (z : ℕ). 0 < z) f p)), lt_of_lt_of_le (subst (λ (z : ℕ). n < (z + 1) * (z + 1)) f r.above) (mul-le-mul (up q) (up q)))
      where
        up : (q : ℕ) → 2 * q - 1 + 1 ≤ 2 * q + 1
        up q = omega arith

        odd : (z : ℕ) → 0 < z → (k : ℕ) × (2 * q - 1 ≡ 2 * k + 1)
        odd z h = (q - 1, shape q (subst (λ (y : ℕ). 0 < y) f p))
          where
            shape : (q : ℕ) → 0 < 2 * q - 1 → 2 * q - 1 ≡ 2 * (q - 1) + 1
            shape q h = omega arith

        strict : (z : ℕ) → z * z ≤ n → (k : ℕ) × (z ≡ 2 * k + 1) → z * z < n
        strict z l w = not_eq (z * z) (2 * (w.0 * w.0 + w.0)) l (square z w.0 w.1)
          where
            square : (z k : ℕ) → z ≡ 2 * k + 1 → z * z ≡ 2 * (2 * (k * k + k)) + 1
            square z k e = ap (λ (y : ℕ). y * y) e ∙ flat k
              where
                flat : (k : ℕ) → (2 * k + 1) * (2 * k + 1) ≡ 2 * (2 * (k * k + k)) + 1
                flat k = omega arith

            not_eq : (a d : ℕ) → a ≤ n → a ≡ 2 * d + 1 → a < n
            not_eq a d h g = omega (arith, e)

-- ---- m * 2 ^ (10 + o), for m of 53 digits, fills 63 or 64 bits
pub radicand_lo : (m o : ℕ) → 4503599627370496 ≤ m → 2 ^ 62 ≤ m * (1024 + 1024 * o)
radicand_lo m o h = mul-le-mul {n₁ = 4503599627370496} {m₁ = 1024} h (one o)
  where
    one : (o : ℕ) → 1024 ≤ 1024 + 1024 * o
    one o = omega arith

pub radicand_hi : (m o : ℕ) → m < 9007199254740992 → o < 2 → m * (1024 + 1024 * o) < 2 ^ 64
radicand_hi m o h l = lt_of_le_of_lt (mul-le-mul {n₂ = 9007199254740991} {m₂ = 2048} (at_most m h) (two o l)) (lit< tt)
  where
    at_most : (t : ℕ) → t < 9007199254740992 → t ≤ 9007199254740991
    at_most t h = omega arith

    two : (o : ℕ) → o < 2 → 1024 + 1024 * o ≤ 2048
    two o h = omega arith

-- ---- all of it
abbrev pub expo : ℕ → ℕ
expo f = (f + 955 - (f + 1) % 2) / 2 + 1

abbrev pub radicand : ℕ → ℕ → ℕ
radicand m f = m * (1024 + 1024 * ((f + 1) % 2))

module _ (m f : ℕ) (m_lo : 4503599627370496 ≤ m) (m_hi : m < 9007199254740992) (f_lo : 1 ≤ f) (f_hi : f ≤ 2200) where
  pub h_lo : 2 ^ 62 ≤ m * (1024 + 1024 * ((f + 1) % 2))
  h_lo = radicand_lo m ((f + 1) % 2) m_lo

  pub h_hi : m * (1024 + 1024 * ((f + 1) % 2)) < 2 ^ 64
  h_hi = radicand_hi m ((f + 1) % 2) m_hi (bit (f + 1))
    where
      bit : (a : ℕ) → a % 2 < 2
      bit a = omega arith

  module _ (s : ℕ) (r : WholeRoot (radicand m f * 2 ^ 44) s) where
    s_lo : 2 ^ 53 ≤ s
    s_lo = root_ge (radicand m f * 2 ^ 44) s (2 ^ 53) r (mul-le-mul_right (2 ^ 44) h_lo)

    pub s_hi : s < 2 ^ 54
    s_hi = root_lt (radicand m f * 2 ^ 44) s (2 ^ 54) r (mul-lt-mul_of_pos_right h_hi (lit< tt))

    q_lo : 2 ^ 52 ≤ (s + 1) / 2
    q_lo = go s s_lo
      where
        go : (s : ℕ) → 2 ^ 53 ≤ s → 2 ^ 52 ≤ (s + 1) / 2
        go s h = omega arith

    pub q_hi : (s + 1) / 2 ≤ 2 ^ 53
    q_hi = go s s_hi
      where
        go : (s : ℕ) → s < 2 ^ 54 → (s + 1) / 2 ≤ 2 ^ 53
        go s h = omega arith

    pub e_small : expo f < 2000
    e_small = (exponents f ((f + 1) % 2) f_lo f_hi refl).3

    even_h : (h : ℕ) → h * 2 ^ 44 % 2 ≡ 0
    even_h h = omega arith

    wide : 2 * s + 1 ≤ 2 ^ expo f
    wide = le_trans (go s s_hi) (pow_mono {i = 56} (exponents f ((f + 1) % 2) f_lo f_hi refl).2)
      where
        go : (s : ℕ) → s < 2 ^ 54 → 2 * s + 1 ≤ 2 ^ 56
        go s h = omega arith

    module _ (v : ℕ) (v_is : v * 2 ^ 64 ≡ m * 2 ^ (f - 1)) where
      pub n_is : v * 2 ^ 1076 ≡ radicand m f * 2 ^ 44 * (2 ^ expo f * 2 ^ expo f)
      n_is =
          let w = exponents f ((f + 1) % 2) f_lo f_hi refl in
          scale_eq v m f ((f + 1) % 2) (expo f) f_lo w.1 w.0 v_is

      root_is : Is (root_units v) false ((s + 1) / 2 * 2 ^ expo f)
      unfolding root_units
      root_is =
          let S = whole_root (v * 2 ^ 1076) in
          let g = 2 ^ expo f in
          let R = whole_root_right (v * 2 ^ 1076) in
          let E = even_h (radicand m f) in
          round_halves S (expo f) ((s + 1) / 2)
          (le_trans (le_of_eq (pow-add 2 53 (expo f))) (le_trans (mul-le-mul_right g s_lo) (cut_lo (v * 2 ^ 1076) (radicand m f * 2 ^ 44) g S s n_is E R r wide)))
          (lt_of_lt_of_le (cut_hi (v * 2 ^ 1076) (radicand m f * 2 ^ 44) g S s n_is E R r wide) (le_trans (mul-le-mul_right g (next s s_hi)) (le_of_eq (sym (pow-add 2 54 (expo f))))))
          (nearest_root (v * 2 ^ 1076) (radicand m f * 2 ^ 44) g S s n_is E R r wide)
          (lt_of_le_of_lt (mul-le-mul_right g q_hi) (lt_of_le_of_lt (le_of_eq (sym (pow-add 2 53 (expo f)))) (lib.Pow.pow-lt (far (expo f) e_small))))
        where
          next : (s : ℕ) → s < 2 ^ 54 → s + 1 ≤ 2 ^ 54
          next s h = omega arith

          far : (e : ℕ) → e < 2000 → 53 + e < 2098
          far e h = omega arith

      pub rooted : Rooted v (root_units v)
      rooted =
          let g = 2 ^ expo f in
          let n = between (radicand m f * 2 ^ 44) s (even_h (radicand m f)) (lt_of_lt_of_le (lit< tt) s_lo) r in
          record {
            q = (s + 1) / 2;
            g = g;
            e = expo f;
            g_is = refl;
            y_is = root_is;
            low = q_lo;
            high = q_hi;
            normal = le_trans (mul-le-mul (mul-le-mul_right g s_lo) (mul-le-mul_right g s_lo)) (le_trans (le_of_eq (regroup s g)) (le_trans (mul-le-mul_right (g * g) r.below) (le_of_eq (sym n_is))));
            above = lt_of_lt_of_le (lt_of_le_of_lt (le_of_eq (regroup (2 * ((s + 1) / 2) - 1) g)) (mul-lt-mul_of_pos_right n.0 (mul-pos (pow_pos (expo f)) (pow_pos (expo f))))) (le_of_eq (sym n_is));
            below = lt_of_le_of_lt (le_of_eq n_is) (lt_of_lt_of_le (mul-lt-mul_of_pos_right n.1 (mul-pos (pow_pos (expo f)) (pow_pos (expo f)))) (le_of_eq (sym (regroup (2 * ((s + 1) / 2) + 1) g))));
          }
        where
          regroup : (a g : ℕ) → a * g * (a * g) ≡ a * a * (g * g)
          regroup a g = omega arith
