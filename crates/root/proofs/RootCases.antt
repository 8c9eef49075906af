-- The square root by the cases of the code: nan, zeros, what is below zero, infinity, normal and subnormal values; and that the two inner functions give the definition's root.
use Rattle.std.proofs.Common.{◌≡◌, ℕ, zero, suc, ◌+◌, ◌-◌, ◌*◌, ◌/◌, ◌%◌, ◌^◌, ◌<◌, ◌≤◌, Bool, true, false, not, ◌&&◌, T, eqb, ◌⊎◌, sym, refl, ap, ◌∙◌, subst, inl, inr, true≢false, le_trans, le_of_eq, lt_of_lt_of_le, lt_of_le_of_lt, mul_assoc, mul-lt-mul_of_pos_right, mul-pos, not-le_of_lt, arith, lit<, lit≤, pow_pos, pow-add, ltb-true, eq-eqb, eqb-true}
use mathlib.Core.Bool.{false≢true}
use lib.Ieee.{Float, nan, inf, fin, binary64, up, down, size, round, mul, div, lt, eq, le, ne, fits, is_nan, to_bits, of_bits}
use lib.Ieee.Fits.{up_pos, down_pos}
use lib.Ieee.Bits.{of_bits-to_bits}
use lib.Ieee.Scale.{round_same}
use borrow.Author.Tests.{eqb-false, not-true, not-false}
use Rattle.float.proofs.Rounding.{U_pos, mul_is}
use Rattle.float.proofs.Fields.{fields_is}
use Rattle.float.proofs.Units.{held, exact_is, le_or_lt, one_number, units_div, number}
use Rattle.float.proofs.Pattern.{rank, bits_rank, rank_lo, rank_hi}
use Rattle.float.proofs.Zeros.{split_and}
use Rattle.float.specs.Helpers.{nought}
use Rattle.float.proofs.Signed.{le_val, val_le}
use Rattle.float.proofs.Order as order
use Rattle.root.specs.Root.{root, root_units}
use Rattle.float.specs.Units.{U, Is}
use Rattle.root.specs.RootSteps.{Normal, PartsRoot, ScaledRoot}

-- ---- the bits of a normal value
plain : (a : ℕ) → 0 + a ≡ a
plain a = omega arith

module _ (x : Float) (N : Normal x) where
  pub bits_lo : 4503599627370496 ≤ to_bits binary64 x
  bits_lo = le_trans (rank_lo N.w N.low) (le_of_eq (sym (bits_rank x false N.w N.is ∙ plain (rank N.w))))

  pub bits_hi : to_bits binary64 x < 9218868437227405312
  bits_hi = lt_of_le_of_lt (le_of_eq (bits_rank x false N.w N.is ∙ plain (rank N.w))) (rank_hi N.w N.high)

-- the parts of a bit pattern
pub parts : (b : ℕ) → 4503599627370496 ≤ b → b < 9218868437227405312 → (1 ≤ b / 4503599627370496) × (b / 4503599627370496 < 2047) × (b % 4503599627370496 < 4503599627370496) × (b ≡ b / 4503599627370496 * 4503599627370496 + b % 4503599627370496)
parts b lo hi = (omega arith, omega arith, omega arith, omega arith)

pub x_units : (x : Float) → T (fits binary64 x) → (b : ℕ) → b ≡ to_bits binary64 x → 4503599627370496 ≤ b → b < 9218868437227405312 → Is x false ((b % 4503599627370496 + 4503599627370496) * 2 ^ (b / 4503599627370496 - 1))
x_units x hx b b_is lo hi = go (b / 4503599627370496) (b % 4503599627370496) (parts b lo hi).0 (parts b lo hi).1 (parts b lo hi).2 (parts b lo hi).3
  where
    go : (f t : ℕ) → 1 ≤ f → f < 2047 → t < 4503599627370496 → b ≡ f * 4503599627370496 + t → Is x false ((t + 4503599627370496) * 2 ^ (f - 1))
    go zero t F G l e = absurd (none F)
      where
        none : 1 ≤ 0 → ⊥
        none h = omega arith
    go (suc y) t F G l e =
        subst (λ (z : Float). Is z false ((t + 4503599627370496) * 2 ^ (suc y - 1))) (ap (λ (z : ℕ). of_bits binary64 z) (sym e ∙ b_is) ∙ of_bits-to_bits binary64 x hx)
        (subst (λ (z : ℕ). Is (of_bits binary64 (suc y * 4503599627370496 + t)) false z) (ap (λ (z : ℕ). z * 2 ^ y) (turn t) ∙ ap (λ (z : ℕ). (t + 4503599627370496) * 2 ^ z) (back y)) (fields_is y t l G))
      where
        turn : (t : ℕ) → 4503599627370496 + t ≡ t + 4503599627370496
        turn t = omega arith

        back : (y : ℕ) → y ≡ suc y - 1
        back y = omega arith

-- from the parts' answer to the value's
pub scaled : (x : Float) → T (fits binary64 x) → Normal x → (k : ℕ) (y : Float) → PartsRoot (to_bits binary64 x % 4503599627370496 + 4503599627370496) (to_bits binary64 x / 4503599627370496 + k) y → ScaledRoot x k y
scaled x hx N k y a v w i e =
    let b = to_bits binary64 x in
    let m = b % 4503599627370496 + 4503599627370496 in
    let f = b / 4503599627370496 in
    let j = (one_number x false false w (m * 2 ^ (f - 1)) i (x_units x hx b refl (bits_lo x N) (bits_hi x N))).1 in
    a v (e ∙ ap (λ (z : ℕ). z * 2 ^ k) j ∙ mul_assoc m (2 ^ (f - 1)) (2 ^ k) ∙ ap (λ (z : ℕ). m * z) (sym (pow-add 2 (f - 1) k) ∙ ap (λ (z : ℕ). 2 ^ z) (go f k (parts b (bits_lo x N) (bits_hi x N)).0)))
  where
    go : (f k : ℕ) → 1 ≤ f → f - 1 + k ≡ f + k - 1
    go f k h = omega arith

-- ---- the cases of `root`
-- 2 ^ -1022, the least normal value, and 2 ^ 54
abbrev pub least : Float
least = of_bits binary64 0x0010_0000_0000_0000

abbrev pub lifting : Float
lifting = of_bits binary64 0x4350_0000_0000_0000

-- a product of what is above zero is above zero
above : (a b c : ℕ) → 0 < a → 0 < b → 0 < c → a * b * c ≡ 0 → ⊥
above a b c A B C e = not-le_of_lt (mul-pos (mul-pos A B) C) (le_of_eq e)

pub case_zero : (x : Float) → eq x nought ≡ true → x ≡ root x
unfolding root of_bits eq
case_zero nan h = absurd (false≢true h)
case_zero (inf s) h = absurd (false≢true h)
case_zero (fin s zero e) h = refl
case_zero (fin s (suc m) e) h = absurd (above (suc m) (up e) 1 (pos m) (up_pos e) (lit< tt) (eqb-true (suc m * up e * 1) (0 * 1 * down e) (split_and (eqb (suc m * up e * 1) (0 * 1 * down e)) _ h) ∙ none (down e)))
  where
    pos : (m : ℕ) → 0 < suc m
    pos m = omega arith

    none : (d : ℕ) → 0 * 1 * d ≡ 0
    none d = omega arith

pub case_below : (x : Float) → eq x nought ≡ false → lt x nought ≡ true → of_bits binary64 0x7ff8_0000_0000_0000 ≡ root x
unfolding root of_bits eq lt
case_below nan h l = absurd (false≢true l)
case_below (inf true) h l = refl
case_below (inf false) h l = absurd (false≢true l)
case_below (fin true zero e) h l = absurd (eqb-false (0 * up e * 1) (0 * 1 * down e) (and_true (eqb (0 * up e * 1) (0 * 1 * down e)) (eqb (0 * up e * 1) 0) h (eq-eqb (0 * up e * 1) 0 (none (up e)))) (none' (up e) (down e)))
  where
    none : (u : ℕ) → 0 * u * 1 ≡ 0
    none u = omega arith

    none' : (u d : ℕ) → 0 * u * 1 ≡ 0 * 1 * d
    none' u d = omega arith

    and_true : (a b : Bool) → (a && b) ≡ false → b ≡ true → a ≡ false
    and_true true b p q = absurd (true≢false (sym q ∙ p))
    and_true false b p q = refl
case_below (fin true (suc m) e) h l = refl
case_below (fin false m e) h l = absurd (none (m * up e * 1) (down e) (ltb-true (m * up e * 1) (0 * 1 * down e) l))
  where
    none : (a d : ℕ) → a < 0 * 1 * d → ⊥
    none a d h = omega arith

-- what is left is finite and above zero
pub record Above (x : Float) : Type 0 where
  pub v : ℕ
  pub is : Is x false v
  pub pos : 0 < v
  pub high : v < 2 ^ 2098
  pub root_is : root x ≡ root_units v

equal_in_units : (a d v : ℕ) → a * U ≡ v * d → a * 2 ^ 1074 ≡ v * d
unfolding U
equal_in_units a d v h = h

pub above_of : (m : ℕ) (e : lib.IntN.ℤ) → T (fits binary64 (fin false (suc m) e)) → Above (fin false (suc m) e)
above_of m e t =
    let h = held (fin false (suc m) e) t tt in
    let i : Is (fin false (suc m) e) false h.v = (refl, h.is.1) in
    record {
      v = h.v;
      is = i;
      pos = lib.Ieee.Positive.first_pos h.v (down e) (lt_of_lt_of_le (mul-pos (mul-pos (pos m) (up_pos e)) U_pos) (le_of_eq h.is.1));
      high = h.small;
      root_is = opened ∙ ap root_units (units_div (suc m * up e) (down e) h.v (2 ^ 1074) (down_pos e) (equal_in_units (suc m * up e) (down e) h.v h.is.1));
    }
  where
    pos : (m : ℕ) → 0 < suc m
    pos m = omega arith

    opened : root (fin false (suc m) e) ≡ root_units (suc m * up e * 2 ^ 1074 / down e)
    opened = unfold root in refl

least_is : Is least false (2 ^ 52)
unfolding of_bits U
least_is = (refl, refl)

unfoldable Lift : ℕ
Lift = 2 ^ 1128

lifting_is : Is lifting false Lift
unfolding of_bits U Lift
lifting_is = (refl, refl)

Lift-is : Lift ≡ 2 ^ 54 * U
unfolding Lift U
Lift-is = refl

pub normal_of : (x : Float) (A : Above x) → lt x least ≡ false → Normal x
normal_of x A h =
    record {
      w = A.v;
      is = A.is;
      low = go A.v (val_le least x false false (2 ^ 52) A.v least_is A.is (not-false (le least x) (sym (order.lt_is x least (number x false A.v A.is) (number least false (2 ^ 52) least_is)) ∙ h)));
      high = A.high;
    }
  where
    go : (v : ℕ) → 2 ^ 52 + 0 ≤ v + 0 → 2 ^ 52 ≤ v
    go v h = omega arith

small_of : (x : Float) (A : Above x) → lt x least ≡ true → A.v < 2 ^ 52
small_of x A h = go (le_or_lt (2 ^ 52) A.v)
  where
    no : le least x ≡ false
    no = not-true (le least x) (sym (order.lt_is x least (number x false A.v A.is) (number least false (2 ^ 52) least_is)) ∙ h)

    go : (2 ^ 52 ≤ A.v) ⊎ (A.v < 2 ^ 52) → A.v < 2 ^ 52
    go (inr l) = l
    go (inl l) = absurd (true≢false (sym (le_val least x false false (2 ^ 52) A.v least_is A.is (sum A.v l)) ∙ no))
      where
        sum : (v : ℕ) → 2 ^ 52 ≤ v → 2 ^ 52 + 0 ≤ v + 0
        sum v h = omega arith

lifted_is : (x : Float) (A : Above x) → A.v < 2 ^ 52 → Is (mul binary64 x lifting) false (A.v * 2 ^ 54)
lifted_is x A l =
    subst (λ (z : Float). Is z false (A.v * 2 ^ 54))
    (sym (mul_is x lifting false false A.v Lift A.is lifting_is
    ∙ round_same binary64 false (A.v * Lift) (U * U) (A.v * 2 ^ 54) U (mul-pos U_pos U_pos) U_pos (go A.v Lift U Lift-is)))
    (exact_is false (A.v * 2 ^ 54) A.v 54 refl (lt_of_lt_of_le l (lit≤ tt)) (lt_of_lt_of_le (mul-lt-mul_of_pos_right l (pow_pos 54)) (lit≤ tt)))
  where
    go : (v l u : ℕ) → l ≡ 2 ^ 54 * u → v * l * u ≡ v * 2 ^ 54 * (u * u)
    go v l u e = ap (λ (z : ℕ). v * z * u) e ∙ flat v u
      where
        flat : (v u : ℕ) → v * (2 ^ 54 * u) * u ≡ v * 2 ^ 54 * (u * u)
        flat v u = omega arith

pub lifted_normal : (x : Float) (A : Above x) → lt x least ≡ true → Normal (mul binary64 x lifting)
lifted_normal x A h =
    let l = small_of x A h in
    record {
      w = A.v * 2 ^ 54;
      is = lifted_is x A l;
      low = go A.v A.pos;
      high = lt_of_lt_of_le (mul-lt-mul_of_pos_right l (pow_pos 54)) (lit≤ tt);
    }
  where
    go : (v : ℕ) → 0 < v → 2 ^ 52 ≤ v * 2 ^ 54
    go v h = omega arith

pub case_normal : (x : Float) (A : Above x) (y : Float) → ScaledRoot x 64 y → y ≡ root x
case_normal x A y s = s A.v A.v A.is refl ∙ sym A.root_is

pub case_lifted : (x : Float) (A : Above x) → lt x least ≡ true → (y : Float) → ScaledRoot (mul binary64 x lifting) 10 y → y ≡ root x
case_lifted x A h y s = s A.v (A.v * 2 ^ 54) (lifted_is x A (small_of x A h)) (flat A.v) ∙ sym A.root_is
  where
    flat : (v : ℕ) → v * 2 ^ 64 ≡ v * 2 ^ 54 * 2 ^ 10
    flat v = omega arith

pub no_nan : (x : Float) → to_bits binary64 x < 9218868437227405312 → T (not (is_nan x))
unfolding to_bits is_nan
no_nan nan h = absurd (not-le_of_lt h (lit≤ tt))
no_nan (inf s) h = tt
no_nan (fin s m e) h = tt
