-- Fractions of whole numbers, below zero too, and what the contracts say with them. Definitions only.
-- A fraction is (plus - minus) / over with natural numbers, so that no subtraction is lost and every bound is an
-- inequality of products.
use Rattle.std.specs.Prelude.{ℕ, ◌+◌, ◌*◌, ◌^◌, ◌<◌, ◌≤◌, true, false, cond, Float}
use Rattle.std.specs.Float.{nan, inf, fin}
use Rattle.std.specs.Float.Ieee.{up, down}

-- (plus - minus) / over
pub record Frac : Type 0 where
  pub plus : ℕ
  pub minus : ℕ
  pub over : ℕ

abbrev pub negated : Frac → Frac
negated f = record { plus = f.minus; minus = f.plus; over = f.over }

abbrev pub product : Frac → Frac → Frac
product f g = record { plus = f.plus * g.plus + f.minus * g.minus; minus = f.plus * g.minus + f.minus * g.plus; over = f.over * g.over }

abbrev pub total : Frac → Frac → Frac
total f g = record { plus = f.plus * g.over + g.plus * f.over; minus = f.minus * g.over + g.minus * f.over; over = f.over * g.over }

abbrev pub difference : Frac → Frac → Frac
difference f g = total f (negated g)

-- no number: the value of a NaN or an infinity
abbrev pub nothing : Frac
nothing = record { plus = 0; minus = 0; over = 0 }

-- the value of a float
abbrev pub worth : Float → Frac
worth nan = nothing
worth (inf s) = nothing
worth (fin true m e) = record { plus = 0; minus = m * up e; over = down e }
worth (fin false m e) = record { plus = m * up e; minus = 0; over = down e }

-- f is above zero, for an `over` above zero
abbrev pub Positive : Frac → Type 0
Positive f = f.minus < f.plus

-- |f| ≤ 2 ^ -46 * a / d
pub record Small (f : Frac) (a d : ℕ) : Type 0 where
  pub above : 2 ^ 46 * (f.plus * d) ≤ 2 ^ 46 * (f.minus * d) + a * f.over
  pub below : 2 ^ 46 * (f.minus * d) ≤ 2 ^ 46 * (f.plus * d) + a * f.over

-- |a / d - f| ≤ 2 ^ -h
pub record Close (h a d : ℕ) (f : Frac) : Type 0 where
  pub below : 2 ^ h * (a * f.over + f.minus * d) ≤ 2 ^ h * (f.plus * d) + f.over * d
  pub above : 2 ^ h * (f.plus * d) ≤ 2 ^ h * (a * f.over + f.minus * d) + f.over * d

-- x is finite, and |x - f| ≤ 2 ^ -h
abbrev pub Near : ℕ → Float → Frac → Type 0
Near h nan f = ⊥
Near h (inf s) f = ⊥
Near h (fin s m e) f = Close h (m * up e) (down e) (cond s (negated f) f)
