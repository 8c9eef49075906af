-- The bracket `Rooted` holds of one value: so it says all of what a correctly rounded root is, and `root` is that.
use Rattle.std.proofs.Common.{◌≡◌, ℕ, ◌+◌, ◌-◌, ◌*◌, ◌^◌, ◌<◌, ◌≤◌, false, T, ◌⊎◌, sym, ap, ◌∙◌, subst, inl, inr, le_of_eq, lt_of_le_of_lt, mul_assoc, mul-le-mul, le_antisymm, lt_of_mul-lt-mul_right, lt_of_not-le, not-le_of_lt, arith, pow_mono, pow-add}
use lib.Ieee.{Float, binary64, fits}
use lib.Ieee.Fits.{round-fits}
use Rattle.float.proofs.Units.{one_float, le_or_lt}
use Rattle.root.specs.Root.{root, root_units, whole_root, Rooted}
use Rattle.root.proofs.RootCases.{Above}
use Rattle.root.proofs.RootOrder.{root_rooted}
use Rattle.float.specs.Units.{Is}

root_lt : (a b : ℕ) → a * a < b * b → a < b
root_lt a b h = lt_of_not-le (λ (g : b ≤ a). not-le_of_lt h (mul-le-mul g g))

-- one unit g for both
same_unit : (q q' g : ℕ) → (2 * q - 1) * g < (2 * q' + 1) * g → q ≤ q'
same_unit q q' g h = go (lt_of_mul-lt-mul_right g h)
  where
    go : 2 * q - 1 < 2 * q' + 1 → q ≤ q'
    go l = omega arith

-- k > 1 times the unit: then both are the power of two where the units change
other_unit : (q q' g k : ℕ) → 2 ≤ k → q ≤ 2 ^ 53 → 2 ^ 52 ≤ q' → 2 ^ 53 * (k * g) < (2 * q + 1) * g → (2 * q' - 1) * (k * g) < (2 * q + 1) * g → q * g ≡ q' * (k * g)
other_unit q q' g k K Q Q' h l =
    let a : 2 ^ 53 * k < 2 * q + 1 = lt_of_mul-lt-mul_right g (lt_of_le_of_lt (le_of_eq (mul_assoc (2 ^ 53) k g)) h) in
    let k2 : k ≡ 2 = two a in
    let q2 : q ≡ 2 ^ 53 = full (subst (λ (z : ℕ). 2 ^ 53 * z < 2 * q + 1) k2 a) in
    let b : (2 * q' - 1) * 2 < 2 * q + 1 = subst (λ (z : ℕ). (2 * q' - 1) * z < 2 * q + 1) k2 (lt_of_mul-lt-mul_right g (lt_of_le_of_lt (le_of_eq (mul_assoc (2 * q' - 1) k g)) l)) in
    let q3 : q' ≡ 2 ^ 52 = half q2 b in
    ap (λ (z : ℕ). z * g) q2 ∙ flat g ∙ ap (λ (z : ℕ). z * (2 * g)) (sym q3) ∙ ap (λ (z : ℕ). q' * (z * g)) (sym k2)
  where
    two : 2 ^ 53 * k < 2 * q + 1 → k ≡ 2
    two a = omega arith

    full : 2 ^ 53 * 2 < 2 * q + 1 → q ≡ 2 ^ 53
    full a = omega arith

    half : q ≡ 2 ^ 53 → (2 * q' - 1) * 2 < 2 * q + 1 → q' ≡ 2 ^ 52
    half e b = omega arith

    flat : (g : ℕ) → 2 ^ 53 * g ≡ 2 ^ 52 * (2 * g)
    flat g = omega arith

wider : (v : ℕ) (y y' : Float) (r : Rooted v y) (r' : Rooted v y') → r.e < r'.e → r.q * r.g ≡ r'.q * r'.g
wider v y y' r r' h =
    let k = 2 ^ (r'.e - r.e) in
    let e : r'.g ≡ k * r.g = r'.g_is ∙ ap (λ (z : ℕ). 2 ^ z) (split r.e r'.e h) ∙ pow-add 2 (r'.e - r.e) r.e ∙ ap (λ (z : ℕ). k * z) (sym r.g_is) in
    other_unit r.q r'.q r.g k (pow_mono {i = 1} (one r.e r'.e h)) r.high r'.low
    (root_lt (2 ^ 53 * (k * r.g)) ((2 * r.q + 1) * r.g) (lt_of_le_of_lt (subst (λ (z : ℕ). 2 ^ 53 * z * (2 ^ 53 * z) ≤ v * 2 ^ 1076) e r'.normal) r.below))
    (root_lt ((2 * r'.q - 1) * (k * r.g)) ((2 * r.q + 1) * r.g) (native.Mathlib.Nat.lt_trans (subst (λ (z : ℕ). (2 * r'.q - 1) * z * ((2 * r'.q - 1) * z) < v * 2 ^ 1076) e r'.above) r.below))
    ∙ ap (λ (z : ℕ). r'.q * z) (sym e)
  where
    split : (a b : ℕ) → a < b → b ≡ b - a + a
    split a b h = omega arith

    one : (a b : ℕ) → a < b → 1 ≤ b - a
    one a b h = omega arith

pub one_root : (v : ℕ) (y y' : Float) → T (fits binary64 y) → T (fits binary64 y') → Rooted v y → Rooted v y' → y ≡ y'
one_root v y y' t t' r r' = one_float y y' false (r'.q * r'.g) t t' (subst (Is y false) (go (le_or_lt r.e r'.e)) r.y_is) r'.y_is
  where
    equal : (a b : ℕ) → a ≤ b → (a ≡ b) ⊎ (a < b)
    equal a b h = test (le_or_lt b a)
      where
        test : (b ≤ a) ⊎ (a < b) → (a ≡ b) ⊎ (a < b)
        test (inl l) = inl (le_antisymm h l)
        test (inr l) = inr l

    level : r.e ≡ r'.e → r.q * r.g ≡ r'.q * r'.g
    level e =
        let f : r.g ≡ r'.g = r.g_is ∙ ap (λ (z : ℕ). 2 ^ z) e ∙ sym r'.g_is in
        let a : r.q ≤ r'.q = same_unit r.q r'.q r'.g (root_lt ((2 * r.q - 1) * r'.g) ((2 * r'.q + 1) * r'.g) (native.Mathlib.Nat.lt_trans (subst (λ (z : ℕ). (2 * r.q - 1) * z * ((2 * r.q - 1) * z) < v * 2 ^ 1076) f r.above) r'.below)) in
        let b : r'.q ≤ r.q = same_unit r'.q r.q r'.g (root_lt ((2 * r'.q - 1) * r'.g) ((2 * r.q + 1) * r'.g) (native.Mathlib.Nat.lt_trans r'.above (subst (λ (z : ℕ). v * 2 ^ 1076 < (2 * r.q + 1) * z * ((2 * r.q + 1) * z)) f r.below))) in
        ap (λ (z : ℕ). z * r.g) (le_antisymm a b) ∙ ap (λ (z : ℕ). r'.q * z) f

    go : (r.e ≤ r'.e) ⊎ (r'.e < r.e) → r.q * r.g ≡ r'.q * r'.g
    go (inr h) = sym (wider v y' y r' r h)
    go (inl h) = below (equal r.e r'.e h)
      where
        below : (r.e ≡ r'.e) ⊎ (r.e < r'.e) → r.q * r.g ≡ r'.q * r'.g
        below (inl e) = level e
        below (inr l) = wider v y y' r r' l

-- so the bracket is the definition
pub rooted_is : (x : Float) → T (fits binary64 x) → (A : Above x) (y : Float) → T (fits binary64 y) → Rooted A.v y → y ≡ root x
rooted_is x t A y f r = one_root A.v y (root x) f (subst (λ (z : Float). T (fits binary64 z)) (sym A.root_is) (units_fit A.v)) r (root_rooted x t A)
  where
    units_fit : (v : ℕ) → T (fits binary64 (root_units v))
    units_fit v = unfold root_units in round-fits binary64 false (whole_root (v * 2 ^ 1076)) (2 ^ 1075)
