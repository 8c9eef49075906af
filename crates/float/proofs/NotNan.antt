-- What is not a nan: a bit pattern up to that of the infinity, and a float that does not differ from itself.
use Rattle.std.proofs.Common.{◌≡◌, ℕ, ◌%◌, ◌≤◌, Bool, false, not, T, sym, ◌∙◌, subst, true≢false, arith, le-ltb}
use lib.Ieee.{Float, nan, inf, fin, binary64, is_nan, nan_bits, ne}
use lib.Ieee.Bits.{nan_bits_above}
use lib.Ieee.Compare.{nan_differs}

pub low_bits : (n : ℕ) → n ≤ 9218868437227405312 → T (not (nan_bits binary64 n))
low_bits n h = subst (λ (z : Bool). T (not z)) (sym (nan_bits_above binary64 n ∙ le-ltb 9218868437227405312 (n % 9223372036854775808) (go n h))) tt
  where
    go : (n : ℕ) → n ≤ 9218868437227405312 → n % 9223372036854775808 ≤ 9218868437227405312
    go n h = omega arith

pub same_number : (x : Float) → ne x x ≡ false → T (not (is_nan x))
same_number nan h = absurd (true≢false (sym nan_differs ∙ h))
same_number (inf s) h = unfold is_nan in tt
same_number (fin s m e) h = unfold is_nan in tt
