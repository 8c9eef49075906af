-- What an arctangent promises: the angle r of the point (x, y), for finite y and x. Definitions only.
-- S(r) and C(r) are the sums of Angle.antt at the float r, with its own reduction by k.
use Rattle.std.specs.Prelude.{◌≡◌, ℕ, ◌+◌, ◌*◌, ◌<◌, Bool, true, false, cond, T, pos, negsuc, nat_le, Float}
use Rattle.std.specs.Float.{fin}
use Rattle.std.specs.Float.Ieee.{neg, le}
use Rattle.std.specs.Float.Ieee.Positive.{num as top, den as bot}
use Rattle.float.specs.Helpers.{negative}
use Rattle.trig.specs.Fraction.{Frac, product, total, difference, worth, Small, Positive}
use Rattle.trig.specs.Angle.{sine, cosine}

-- the larger of |y| and |x| is `larger y x` / (bot y * bot x)
abbrev pub larger : Float → Float → ℕ
larger y x = cond (nat_le (top y * bot x) (top x * bot y)) (top x * bot y) (top y * bot x)

-- the double nearest to pi: 884279719003555 * 2 ^ -48
abbrev pub pi : Float
pi = fin false 884279719003555 (negsuc 47)

abbrev pub nought : Float
nought = fin false 0 (pos 0)

-- x, or -x
abbrev pub signed : Bool → Float → Float
signed true x = neg x
signed false x = x

-- y C(r) - x S(r)
abbrev pub residual : Float → Float → Float → Frac
residual y x r = difference (product (worth y) (cosine r)) (product (worth x) (sine r))

-- x C(r) + y S(r)
abbrev pub along : Float → Float → Float → Frac
along y x r = total (product (worth x) (cosine r)) (product (worth y) (sine r))

-- the residual is at most 2 ^ -46 times the larger of |y| and |x|, and r is not the opposite direction
pub record Toward (y x r : Float) : Type 0 where
  pub small : Small (residual y x r) (larger y x) (bot y * bot x)
  pub ahead : Positive (along y x r)

-- r is the angle of (x, y): between -pi and pi, with the sign bit of y, in the direction of (x, y) where that is not
-- the origin, and for a zero y one of 0, -0, pi and -pi
pub record Direction (y x r : Float) : Type 0 where
  pub least : T (le (neg pi) r)
  pub greatest : T (le r pi)
  pub sign : negative r ≡ negative y
  pub toward : 0 < top y + top x → Toward y x r
  pub zeros : top y ≡ 0 → r ≡ signed (negative y) (cond (negative x) pi nought)
