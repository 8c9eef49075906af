-- What the two tests of `root` tell of its argument, and the ranges of a normal value's parts.
use Rattle.std.proofs.Common.{◌≡◌, ℕ, zero, suc, ◌+◌, ◌/◌, ◌%◌, ◌^◌, ◌<◌, ◌≤◌, true, false, T, sym, refl, ◌∙◌, true≢false, arith}
use mathlib.Core.Bool.{false≢true}
use lib.Ieee.{Float, nan, inf, fin, binary64, lt, le, eq, fits, of_bits}
use Rattle.float.proofs.Zeros.{neg_below, zero_eq, below_inf}
use Rattle.float.proofs.Order.{eq_le, lt_le, le_lt_trans}
use Rattle.root.proofs.RootCases.{Above, above_of, least}
use Rattle.float.specs.Helpers.{nought}
use Rattle.root.specs.Root.{root}

abbrev infinity : Float
infinity = of_bits binary64 9218868437227405312

zero_small : lt nought least ≡ true
unfolding lt of_bits
zero_small = refl

at_most_zero : (x : Float) → le x nought ≡ true → lt x least ≡ false → ⊥
at_most_zero x a h = true≢false (sym (le_lt_trans x nought least a zero_small) ∙ h)

nan_below : (y : Float) → lt nan y ≡ false
unfolding lt
nan_below y = refl

lowest_small : lt (inf true) least ≡ true
unfolding lt of_bits
lowest_small = refl

highest_large : lt (inf false) least ≡ false
unfolding lt of_bits
highest_large = refl

highest_last : lt (inf false) infinity ≡ false
unfolding lt of_bits
highest_last = refl

below_infinity : (s : mathlib.Core.Bool.Bool) (m : ℕ) (e : lib.IntN.ℤ) → lt (fin s m e) infinity ≡ true
unfolding lt of_bits
below_infinity s m e = refl

pub normal_above : (x : Float) → T (fits binary64 x) → lt x least ≡ false → lt x infinity ≡ true → Above x
normal_above nan t a b = absurd (false≢true (sym (nan_below infinity) ∙ b))
normal_above (inf true) t a b = absurd (true≢false (sym lowest_small ∙ a))
normal_above (inf false) t a b = absurd (false≢true (sym highest_last ∙ b))
normal_above (fin s zero e) t a b = absurd (at_most_zero (fin s zero e) (eq_le (fin s zero e) nought (zero_eq s e)) a)
normal_above (fin true (suc m) e) t a b = absurd (at_most_zero (fin true (suc m) e) (lt_le (fin true (suc m) e) nought (neg_below m e)) a)
normal_above (fin false (suc m) e) t a b = above_of m e t

pub small_above : (x : Float) → T (fits binary64 x) → lt x least ≡ true → eq x nought ≡ false → lt x nought ≡ false → Above x
small_above nan t a b c = absurd (false≢true (sym (nan_below least) ∙ a))
small_above (inf true) t a b c = absurd (true≢false (sym below_inf ∙ c))
small_above (inf false) t a b c = absurd (false≢true (sym highest_large ∙ a))
small_above (fin s zero e) t a b c = absurd (true≢false (sym (zero_eq s e) ∙ b))
small_above (fin true (suc m) e) t a b c = absurd (true≢false (sym (neg_below m e) ∙ c))
small_above (fin false (suc m) e) t a b c = above_of m e t

pub nothing_smaller : (x : Float) → lt x least ≡ false → lt x infinity ≡ false → x ≡ root x
unfolding root
nothing_smaller nan a b = refl
nothing_smaller (inf true) a b = absurd (true≢false (sym lowest_small ∙ a))
nothing_smaller (inf false) a b = refl
nothing_smaller (fin s m e) a b = absurd (true≢false (sym (below_infinity s m e) ∙ b))

module _ (b k : ℕ) (low : 4503599627370496 ≤ b) (high : b < 9218868437227405312) (shift : k ≤ 64) where
  pub field_room : b / 4503599627370496 + k < 2 ^ 64
  field_room = omega arith

  pub odd_room : b / 4503599627370496 + k + 1 < 2 ^ 64
  odd_room = omega arith

  pub m_low : 4503599627370496 ≤ b % 4503599627370496 + 4503599627370496
  m_low = omega arith

  pub m_high : b % 4503599627370496 + 4503599627370496 < 9007199254740992
  m_high = omega arith

  pub f_low : 1 ≤ b / 4503599627370496 + k
  f_low = omega arith

  pub f_high : b / 4503599627370496 + k ≤ 2200
  f_high = omega arith
