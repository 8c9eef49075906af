-- What a finite f64 is worth: a whole number of units of 2 ^ -1074, the least value above zero. The sign stands apart,
-- so that a law on values is one on whole numbers.
use Rattle.std.specs.Prelude.{ℕ, ◌^◌, Bool, Float}
use Rattle.std.specs.Float.Ieee.Exact.{HasValue}

-- the number 1, in units
unfoldable pub U : ℕ
U = 2 ^ 1074

-- x is finite, has the sign s (true: negative), and is v units in size
abbrev pub Is : Float → Bool → ℕ → Type 0
Is x s v = HasValue x s v U
