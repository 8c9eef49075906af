-- A number as hexadecimal text, in ASCII and upper case.
use Rattle.std.specs.Prelude.{ℕ, zero, suc, ◌+◌, ◌/◌, ◌%◌, cond, List, [], ◌∷◌, ◌++◌, ltb, codes, is_nan, to_bits, Float}
use Rattle.std.specs.Float.{binary64}

-- `0` to `9`, then `A` to `F`
abbrev pub digit : ℕ → ℕ
digit d = cond (ltb d 10) (48 + d) (55 + d)

-- the last k digits of n, the most significant first
unfoldable pub digits : ℕ → ℕ → List ℕ
digits zero n = []
digits (suc k) n = digits k (n / 16) ++ (digit (n % 16) ∷ [])

-- of a float the 16 digits of its bits, or `nan`
abbrev pub float_digits : Float → List ℕ
float_digits x = cond (is_nan x) (codes "nan") (digits 16 (to_bits binary64 x))
