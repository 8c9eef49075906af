-- The sine and the cosine of a float as the code makes them, and what they promise. Definitions only.
use Rattle.std.specs.Prelude.{◌≡◌, ℕ, zero, suc, ◌+◌, ◌*◌, ◌%◌, ◌^◌, ◌≤◌, Bool, true, false, cond, from_bits, Float, None, Option, Some}
use Rattle.std.specs.Float.Ieee.{neg, eq, lt, le}
use Rattle.std.specs.Float.{binary64}
use Rattle.std.specs.Float.Ieee.Positive.{num as top, den as bot}
use Rattle.trig.specs.declared.Pair.{Pair}
use Rattle.trig.specs.Fraction.{Near}
use Rattle.trig.specs.Angle.{sine, cosine}
use Rattle.trig.specs.Kernel.{plus_zero, one, sine_kernel, cosine_kernel}
use Rattle.trig.specs.Reduction.{turn_k, turn_below, turn_rest}
use Rattle.std.specs.Float.Ieee.Scale.{finite}

-- s, -s, c or -c by k modulo 4, as `place` in Angle.antt
abbrev pub placed : ℕ → Bool → Float → Float → Float
placed zero b s c = cond b (neg s) s
placed (suc zero) b s c = c
placed (suc (suc zero)) b s c = cond b s (neg s)
placed (suc (suc (suc k))) b s c = neg c

-- sin (a + j * Pi / 2), for a above 0
unfoldable pub wave_float : ℕ → Float → Float
unfolding turn_k turn_below turn_rest
wave_float j a = placed ((turn_k a + j) % 4) (turn_below a) (sine_kernel (turn_rest a)) (cosine_kernel (turn_rest a))

-- sin x and cos x, for |x| ≤ 800
unfoldable pub sine_float : Float → Float
unfolding wave_float
sine_float x = cond (eq x plus_zero) x (cond (lt x plus_zero) (neg (wave_float 0 (neg x))) (wave_float 0 x))

unfoldable pub cosine_float : Float → Float
unfolding wave_float
cosine_float x = cond (eq x plus_zero) one (cond (lt x plus_zero) (wave_float 1 (neg x)) (wave_float 1 x))

-- |x| ≤ 800: false of a NaN
abbrev pub most : Float
most = from_bits binary64 0x4089_0000_0000_0000

unfoldable pub served : Float → Bool
served x = cond (le x most) (le (neg most) x) false

-- ---- what `sine`, `cosine` and `sine_cosine` answer
unfoldable pub sine_of : Float → Option Float
unfolding served sine_float
sine_of x = cond (served x) (Some (sine_float x)) None

unfoldable pub cosine_of : Float → Option Float
unfolding served cosine_float
cosine_of x = cond (served x) (Some (cosine_float x)) None

-- both, from their answers
abbrev pub paired : Option Float → Option Float → Option Pair
paired (Some s) (Some c) = Some (record { sine = s; cosine = c })
paired (Some s) None = None
paired None a = None

-- ---- what holds of it
-- |y| ≤ 1 + 2 ^ -50
abbrev pub Sized : Float → Type 0
Sized y = 2 ^ 50 * top y ≤ (2 ^ 50 + 1) * bot y

-- y is within 2 ^ -50 of the sum, finite, and at most 1 + 2 ^ -50 in size; the sine is odd and the cosine even, in
-- every bit
pub record SineValue (x y : Float) : Type 0 where
  pub near : Near 50 y (sine x)
  pub is_finite : finite y ≡ true
  pub size : Sized y
  pub zeros : top x ≡ 0 → y ≡ x
  pub odd : sine_of (neg x) ≡ Some (neg y)

pub record CosineValue (x y : Float) : Type 0 where
  pub near : Near 50 y (cosine x)
  pub is_finite : finite y ≡ true
  pub size : Sized y
  pub zeros : top x ≡ 0 → y ≡ one
  pub even : cosine_of (neg x) ≡ Some y

-- out of range exactly where |x| ≤ 800 is false
abbrev pub SineAnswer : Float → Option Float → Type 0
SineAnswer x (Some y) = (served x ≡ true) × SineValue x y
SineAnswer x None = served x ≡ false

abbrev pub CosineAnswer : Float → Option Float → Type 0
CosineAnswer x (Some y) = (served x ≡ true) × CosineValue x y
CosineAnswer x None = served x ≡ false

abbrev pub PairRight : Float → Option Pair → Type 0
PairRight x (Some p) = (served x ≡ true) × SineValue x p.sine × CosineValue x p.cosine
PairRight x None = served x ≡ false
