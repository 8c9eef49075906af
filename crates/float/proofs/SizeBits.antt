-- The size of a float by its bit pattern: the same pattern with no sign.
use Rattle.std.proofs.Common.{◌≡◌, ℕ, zero, suc, ◌+◌, ◌%◌, ◌^◌, ◌<◌, ◌≤◌, Bool, true, false, cond, not, T, ℤ, sym, refl, ap, ◌∙◌, subst, arith, lit≤}
use mathlib.Core.Bool.{false≢true}
use lib.Ieee.{Float, nan, inf, fin, binary64, fits, is_nan, to_bits, of_bits, nan_bits}
use lib.Ieee.Bits.{of_bits-to_bits}
use Rattle.float.proofs.Units.{held}
use Rattle.float.proofs.Pattern.{rank, bits_rank, rank_hi}
use Rattle.float.proofs.NotNan.{low_bits}
use Rattle.float.specs.Helpers.{size_of}

pub nan_itself : (x : Float) → is_nan x ≡ true → x ≡ size_of x
unfolding size_of is_nan
nan_itself nan h = refl
nan_itself (inf s) h = absurd (false≢true h)
nan_itself (fin s m e) h = absurd (false≢true h)

size_fits : (s : Bool) (m : ℕ) (e : ℤ) → T (fits binary64 (fin s m e)) → T (fits binary64 (fin false m e))
unfolding fits
size_fits s zero e t = t
size_fits s (suc m) e t = t

-- what is left of the pattern is that of the size
unsigned : (x : Float) → T (fits binary64 x) → T (not (is_nan x)) → (to_bits binary64 x % 9223372036854775808 ≡ to_bits binary64 (size_of x)) × (to_bits binary64 (size_of x) ≤ 9218868437227405312) × T (fits binary64 (size_of x))
unfolding size_of
unsigned nan t n = absurd (unfold is_nan in n)
unsigned (inf true) t n = (unfold to_bits in refl, unfold to_bits in lit≤ tt, unfold fits in tt)
unsigned (inf false) t n = (unfold to_bits in refl, unfold to_bits in lit≤ tt, unfold fits in tt)
unsigned (fin s m e) t n =
    let h = held (fin s m e) t tt in
    let own = bits_rank (fin s m e) h.s h.v h.is in
    let plain = bits_rank (fin false m e) false h.v (refl, h.is.1) in
    let small = rank_hi h.v h.small in
    (ap (λ (z : ℕ). z % 9223372036854775808) own ∙ cut h.s (rank h.v) small ∙ sym plain, bound (to_bits binary64 (fin false m e)) (rank h.v) plain small, size_fits s m e t)
  where
    cut : (s : Bool) (r : ℕ) → r < 9218868437227405312 → (cond s (2 ^ 63) 0 + r) % 9223372036854775808 ≡ 0 + r
    cut true r h = omega arith
    cut false r h = omega arith

    bound : (b r : ℕ) → b ≡ 0 + r → r < 9218868437227405312 → b ≤ 9218868437227405312
    bound b r e h = omega arith

module _ (x : Float) (t : T (fits binary64 x)) (n : T (not (is_nan x))) where
  pub no_nan_size : T (not (nan_bits binary64 (to_bits binary64 x % 9223372036854775808)))
  no_nan_size = let u = unsigned x t n in low_bits (to_bits binary64 x % 9223372036854775808) (subst (λ (z : ℕ). z ≤ 9218868437227405312) (sym u.0) u.1)

  pub bits_size : of_bits binary64 (to_bits binary64 x % 9223372036854775808) ≡ size_of x
  bits_size = let u = unsigned x t n in ap (λ (z : ℕ). of_bits binary64 z) u.0 ∙ of_bits-to_bits binary64 (size_of x) u.2
