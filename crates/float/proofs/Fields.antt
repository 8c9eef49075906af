-- What the bit pattern of a normal f64 stands for, in units: its digits times 2 ^ (field - 1). The root reads and writes patterns.
use Rattle.std.proofs.Common.{◌≡◌, ℕ, suc, ◌+◌, ◌*◌, ◌/◌, ◌%◌, ◌^◌, ◌<◌, Bool, true, false, cond, T, eqb, leb, sym, refl, ap, ◌∙◌, subst, mod-eq_of_lt, not-le_of_lt, arith, eqb→eq, leb→le}
use lib.Pow.{high, low}
use lib.Ieee.{Float, inf, nan, binary64, odd, of_fields, of_bits}
use lib.Ieee.Exact.{HasValue, odd_sign}
use Rattle.float.specs.Units.{U, Is}

false_of : (b : Bool) → (T b → ⊥) → b ≡ false
false_of true h = absurd (h tt)
false_of false h = refl

pub fields_is : (x t : ℕ) → t < 2 ^ 52 → suc x < 2047 → Is (of_bits binary64 (suc x * 2 ^ 52 + t)) false ((2 ^ 52 + t) * 2 ^ x)
unfolding U of_bits of_fields
fields_is x t l h =
    let b = suc x * 2 ^ 52 + t in
    let s : b < 2 ^ 63 = small x t l h in
    subst (λ (z : Float). HasValue z false ((2 ^ 52 + t) * 2 ^ x) (2 ^ 1074))
    (sym (ap (λ (c : Bool). of_fields binary64 c (b % 2 ^ 63 / 2 ^ 52) (b % 2 ^ 52)) (false_of (leb (2 ^ 63) b) (λ u. not-le_of_lt s (leb→le (2 ^ 63) b u)))
    ∙ ap (λ (c : ℕ). of_fields binary64 false (c / 2 ^ 52) (b % 2 ^ 52)) (mod-eq_of_lt s)
    ∙ ap (λ (c : ℕ). of_fields binary64 false c (b % 2 ^ 52)) (high (suc x) 52 l)
    ∙ ap (λ (c : ℕ). of_fields binary64 false (suc x) c) (low (suc x) 52 l)
    ∙ ap (λ (c : Bool). cond c (cond (eqb t 0) (inf false) nan) (odd 53 false (2 ^ 52 + t) x 1074)) (false_of (eqb (suc x) 2047) (λ u. other (eqb→eq (suc x) 2047 u)))))
    (odd_sign 53 false (2 ^ 52 + t) x 1074)
  where
    small : (x t : ℕ) → t < 2 ^ 52 → suc x < 2047 → suc x * 2 ^ 52 + t < 2 ^ 63
    small x t l h = omega arith

    other : suc x ≡ 2047 → ⊥
    other e = omega arith
