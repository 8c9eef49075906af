-- The nearest whole number of a value, by its units; and the room that is left above the whole part of 2 x, for x from
-- above zero up to 2 ^ 52.
use Rattle.std.proofs.Common.{◌≡◌, ℕ, zero, suc, ◌+◌, ◌-◌, ◌*◌, ◌/◌, ◌^◌, ◌<◌, ◌≤◌, min, Bool, true, false, cond, T, ℤ, pos, sym, refl, ap, ◌∙◌, subst, true≢false, le_of_eq, lt_of_lt_of_le, lt_of_le_of_lt, div-lt_iff_lt-mul, mul-pos, arith, lit≤}
use native.Mathlib.Nat.{pow-succ'}
use lib.Ieee.{Float, nan, inf, fin, binary64, up, down, mul, lt, eq, fits, of_bits, to_unsigned}
use lib.Ieee.Fits.{down_pos}
use lib.Ieee.Nearest.{div_same}
use lib.Ieee.Scale.{round_same}
use Rattle.float.proofs.Rounding.{U_pos, mul_is}
use Rattle.float.proofs.Units.{held, exact_is}
use Rattle.float.proofs.Signed.{val_lt}
use Rattle.float.proofs.Zeros.{neg_below, zero_eq, below_inf}
use Rattle.float.specs.Units.{U, Is}
use Rattle.float.specs.Helpers.{nought, nearest_whole}

abbrev two : Float
two = of_bits binary64 0x4000_0000_0000_0000

-- 2 ^ 52
abbrev large : Float
large = of_bits binary64 0x4330_0000_0000_0000

unfoldable Large : ℕ
Large = 2 ^ 52 * U

large_is : Is large false Large
unfolding Large U of_bits
large_is = (refl, refl)

-- ---- what is above zero
not_below : (s : Bool) (m : ℕ) (e : ℤ) → lt (fin s m e) nought ≡ false → eq (fin s m e) nought ≡ false → s ≡ false
not_below false m e h l = refl
not_below true zero e h l = absurd (true≢false (sym (zero_eq true e) ∙ l))
not_below true (suc m) e h l = absurd (true≢false (sym (neg_below m e) ∙ h))

nan_large : lt nan large ≡ false
unfolding lt
nan_large = refl

inf_large : lt (inf false) large ≡ false
unfolding lt of_bits
inf_large = refl

-- x is q * 2 ^ j units, not negative, and below 2 ^ 52
record Small (x : Float) : Type 0 where
  v : ℕ
  q : ℕ
  j : ℕ
  is : Is x false v
  shape : v ≡ q * 2 ^ j
  few : q < 2 ^ 53
  less : v < Large

-- the nearest whole number of a value, by its units
pub whole_units : (m : ℕ) (e : ℤ) (v : ℕ) → m * up e * U ≡ v * down e → nearest_whole (m * up e) (down e) ≡ nearest_whole v U
whole_units m e v h = div_same (2 * (m * up e) + down e) (2 * down e) (2 * v + U) (2 * U) (twice (down e) (down_pos e)) (twice U U_pos) (cross (m * up e) (down e) U h)
  where
    twice : (a : ℕ) → 0 < a → 0 < 2 * a
    twice a h = omega arith

    cross : (n d u : ℕ) → n * u ≡ v * d → (2 * n + d) * (2 * u) ≡ (2 * v + u) * (2 * d)
    cross n d u e = omega arith

small : (x : Float) → T (fits binary64 x) → lt x nought ≡ false → eq x nought ≡ false → lt x large ≡ true → Small x
small nan t h l b = absurd (true≢false (sym b ∙ nan_large))
small (inf true) t h l b = absurd (true≢false (sym below_inf ∙ h))
small (inf false) t h l b = absurd (true≢false (sym b ∙ inf_large))
small (fin s m e) t h l b =
    let X = held (fin s m e) t tt in
    let f : s ≡ false = not_below s m e h l in
    let i : Is (fin s m e) false X.v = (f, X.is.1) in
    record {
      v = X.v;
      q = X.q;
      j = X.j;
      is = i;
      shape = X.shape;
      few = X.few;
      less = plain X.v Large (val_lt (fin s m e) large false false X.v Large i large_is b);
    }
  where
    plain : (a b : ℕ) → a + 0 < b + 0 → a < b
    plain a b h = omega arith

-- ---- 2 x, exactly, and its whole part
two_is : Is two false (2 * U)
unfolding U of_bits
two_is = (refl, refl)

room : (v : ℕ) → v < Large → 2 * v < 2 ^ 2098
room v h = lt_of_lt_of_le (double v Large h) (unfold Large in unfold U in lit≤ tt)
  where
    double : (a b : ℕ) → a < b → 2 * a < 2 * b
    double a b h = omega arith

doubled : (x : Float) → (S : Small x) → Is (mul binary64 two x) false (2 * S.v)
doubled x S =
    subst (λ (z : Float). Is z false (2 * S.v))
    (sym (mul_is two x false false (2 * U) S.v two_is S.is ∙ round_same binary64 false (2 * U * S.v) (U * U) (2 * S.v) U (mul-pos U_pos U_pos) U_pos (cross S.v U)))
    (exact_is false (2 * S.v) S.q (suc S.j) (ap (λ (z : ℕ). 2 * z) S.shape ∙ swap S.q (2 ^ S.j) ∙ ap (λ (z : ℕ). S.q * z) (sym (pow-succ' 2 S.j))) S.few (room S.v S.less))
  where
    cross : (v u : ℕ) → 2 * u * v * u ≡ 2 * v * (u * u)
    cross v u = omega arith

    swap : (q p : ℕ) → 2 * (q * p) ≡ q * (2 * p)
    swap q p = omega arith

unfoldable Top : ℕ
Top = 2 ^ 64 * U

top_is : Is (fin false 1 (pos 64)) false Top
unfolding Top U
top_is = (refl, refl)

Large-top : 2 * Large ≤ Top
unfolding Large Top U
Large-top = lit≤ tt

whole_part : (y : Float) (w : ℕ) → Is y false w → w < Top → to_unsigned 64 y ≡ w / U
unfolding to_unsigned
whole_part nan w i h = absurd i
whole_part (inf s) w i h = absurd i
whole_part (fin s m e) w i h =
    ap (λ (t : Bool). cond t 0 (min (m * up e / down e) (2 ^ 64 - 1))) i.0
    ∙ ap (λ (z : ℕ). min z (2 ^ 64 - 1)) (div_same (m * up e) (down e) w U (down_pos e) U_pos i.1)
    ∙ capped (w / U) ((div-lt_iff_lt-mul U_pos).1 (unfold Top in h))
  where
    capped : (x : ℕ) → x < 2 ^ 64 → min x (2 ^ 64 - 1) ≡ x
    capped x l = omega arith

module _ (x : Float) (t : T (fits binary64 x)) (h : lt x nought ≡ false) (l : eq x nought ≡ false) (b : lt x large ≡ true) (n : ℕ) (n_is : n ≡ to_unsigned 64 (mul binary64 two x)) where
  S : Small x
  S = small x t h l b

  n_units : n ≡ 2 * S.v / U
  n_units = n_is ∙ whole_part (mul binary64 two x) (2 * S.v) (doubled x S) (under S.v Large Top S.less Large-top)
    where
      under : (v a b : ℕ) → v < a → 2 * a ≤ b → 2 * v < b
      under v a b h l = omega arith

  -- a small number more still fits
  pub add_room : (m : ℕ) → m ≤ 2 ^ 60 → n + m < 2 ^ 64
  add_room m k = next n m k (lt_of_le_of_lt (le_of_eq n_units) ((div-lt_iff_lt-mul U_pos).1 (lt_of_lt_of_le (double S.v Large S.less) (le_of_eq wide))))
    where
      next : (n m : ℕ) → m ≤ 2 ^ 60 → n < 2 ^ 53 → n + m < 2 ^ 64
      next n m k h = omega arith

      double : (a b : ℕ) → a < b → 2 * a < 2 * b
      double a b h = omega arith

      wide : 2 * Large ≡ 2 ^ 53 * U
      wide = unfold Large in flat U
        where
          flat : (u : ℕ) → 2 * (2 ^ 52 * u) ≡ 2 ^ 53 * u
          flat u = omega arith
