-- The square root of every f64, as IEEE 754 has it: the nearest value, a tie to the even one. Worked out over whole
-- numbers. `proofs/RootUnique.antt` has that no other value lies as near; a tie cannot occur.
use Rattle.std.specs.Prelude.{◌≡◌, ℕ, zero, suc, ◌+◌, ◌-◌, ◌*◌, ◌/◌, ◌^◌, ◌<◌, ◌≤◌, true, false, cond, nat_le, Float}
use Rattle.std.specs.Float.{nan, inf, fin, binary64}
use Rattle.std.specs.Float.Ieee.{up, down, size, round}
use Rattle.float.specs.Units.{Is}

-- the largest s with s * s ≤ n, one binary digit after another: `root_digits k n` for an n below 4 ^ k
unfoldable pub root_digits : ℕ → ℕ → ℕ
root_digits zero n = 0
root_digits (suc k) n =
    let p = 2 * root_digits k (n / 4) in
    cond (nat_le ((p + 1) * (p + 1)) n) (p + 1) p

unfoldable pub whole_root : ℕ → ℕ
unfolding root_digits
whole_root n = root_digits (size n) n

-- The root of v * 2 ^ -1074 is the root of v * 2 ^ 1076, times 2 ^ -1075. That is cut to a whole number, which leaves
-- 22 digits and more below the last that is kept, and rounded to the nearest value of the format.
unfoldable pub root_units : ℕ → Float
unfolding whole_root
root_units v = round binary64 false (whole_root (v * 2 ^ 1076)) (2 ^ 1075)

-- squareRoot of IEEE 754: of a zero the zero itself, of what is below zero a nan. m * up e / down e is the value, so in
-- units it is m * up e * 2 ^ 1074 / down e.
unfoldable pub root : Float → Float
unfolding root_units
root nan = nan
root (inf true) = nan
root (inf false) = inf false
root (fin s zero e) = fin s zero e
root (fin true (suc m) e) = nan
root (fin false (suc m) e) = root_units (suc m * up e * 2 ^ 1074 / down e)

-- That y is the value nearest to the root of v units, in whole numbers: y is q * g units, with q of 53 digits (or
-- 2 ^ 53) and g a power of two, and the root lies less than half of g away, (2 q - 1) g < 2 root < (2 q + 1) g,
-- squared: in units of 2 ^ -1074 the square of the root is v * 2 ^ 1074. `normal`: there the values of the format lie g
-- apart. `root_rooted` (proofs/RootOrder.antt) has this of `root`, and `rooted_is` (proofs/RootUnique.antt) that one
-- value alone has it.
pub record Rooted (v : ℕ) (y : Float) : Type 0 where
  pub q : ℕ
  pub g : ℕ
  pub e : ℕ
  pub g_is : g ≡ 2 ^ e
  pub y_is : Is y false (q * g)
  pub low : 2 ^ 52 ≤ q
  pub high : q ≤ 2 ^ 53
  pub normal : 2 ^ 53 * g * (2 ^ 53 * g) ≤ v * 2 ^ 1076
  pub above : (2 * q - 1) * g * ((2 * q - 1) * g) < v * 2 ^ 1076
  pub below : v * 2 ^ 1076 < (2 * q + 1) * g * ((2 * q + 1) * g)
