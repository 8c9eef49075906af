-- The steps of the sine and the cosine of an angle in degrees, as the code takes them, and so the bits of the pair.
-- `DegreesRight` (Degrees.antt) says what holds of them. Definitions only.
use Rattle.std.specs.Prelude.{ℕ, ◌+◌, ◌-◌, ◌*◌, ◌/◌, ◌%◌, ◌≤◌, Bool, true, false, cond, pos, from_bits, nat_lt, Float, None, Option, Some}
use Rattle.std.specs.Float.{nan, inf, fin, binary64}
use Rattle.std.specs.Float.Ieee.{up, down, mul, neg, of_int, to_unsigned, lt, eq}
use Rattle.float.specs.Helpers.{to_radians}
use Rattle.trig.specs.declared.Pair.{Pair}
use Rattle.trig.specs.Kernel.{plus_zero, one, sine_kernel, cosine_kernel}
use Rattle.trig.specs.Waves.{placed}
use Rattle.trig.specs.Degrees.{plain, turnable}

-- ---- for an angle a from 0 to 45,000
-- From 45 degrees on a double is a whole number of units of 2 ^ -47 degrees, so quarter turns are taken off exactly, in
-- whole numbers. Four quarter turns are a whole one, so k modulo 4 does what the remainder by 360 does.
abbrev pub forty_five : Float
forty_five = from_bits binary64 0x4046_8000_0000_0000

-- 90 and 45 degrees in units of 2 ^ -47
abbrev pub quarter_turn : ℕ
quarter_turn = 12666373951979520

abbrev pub eighth_turn : ℕ
eighth_turn = 6333186975989760

-- a in units of 2 ^ -47 degrees
abbrev pub in_units : Float → ℕ
in_units a = to_unsigned 64 (mul binary64 a (from_bits binary64 0x42e0_0000_0000_0000))

-- the whole number nearest to x / 90 degrees, a half up
unfoldable pub quarter_turns : ℕ → ℕ
quarter_turns x = (x + eighth_turn) / quarter_turn

-- r units of 2 ^ -47 degrees in radians
unfoldable pub radians_of : ℕ → Float
radians_of r = to_radians (mul binary64 (of_int binary64 (pos r)) (from_bits binary64 0x3d00_0000_0000_0000))

-- the distance of x from b: below it, and not
abbrev pub beside : Bool → ℕ → ℕ → ℕ
beside true x b = b - x
beside false x b = x - b

-- k, whether a is below k * 90 degrees, and the distance in radians. Strictly below 45 degrees nothing is taken off:
-- at 45 the definition's k is 1
unfoldable pub degree_k : Float → ℕ
degree_k a = cond (lt a forty_five) 0 (quarter_turns (in_units a))

unfoldable pub degree_below : Float → Bool
degree_below a = cond (lt a forty_five) false (nat_lt (in_units a) (quarter_turns (in_units a) * quarter_turn))

unfoldable pub degree_rest : Float → Float
degree_rest a =
    cond (lt a forty_five) (to_radians a)
    (radians_of (beside (nat_lt (in_units a) (quarter_turns (in_units a) * quarter_turn)) (in_units a) (quarter_turns (in_units a) * quarter_turn)))

-- sin (a + j * 90 degrees), for a above 0
unfoldable pub degree_float : ℕ → Float → Float
degree_float j a = placed ((degree_k a + j) % 4) (degree_below a) (sine_kernel (degree_rest a)) (cosine_kernel (degree_rest a))

-- the sine and the cosine of x, for |x| ≤ 45,000
unfoldable pub sine_degrees : Float → Float
sine_degrees x = cond (eq x plus_zero) plus_zero (plain (cond (lt x plus_zero) (neg (degree_float 0 (neg x))) (degree_float 0 x)))

unfoldable pub cosine_degrees : Float → Float
cosine_degrees x = cond (eq x plus_zero) one (plain (cond (lt x plus_zero) (degree_float 1 (neg x)) (degree_float 1 x)))

-- what `of_degrees` answers
unfoldable pub degree_pair : Float → Option Pair
degree_pair x = cond (turnable x) (Some (record { sine = sine_degrees x; cosine = cosine_degrees x })) None

-- a is from 0 to 45,000
abbrev pub UpToWidest : Float → Type 0
UpToWidest nan = ⊥
UpToWidest (inf s) = ⊥
UpToWidest (fin true m e) = ⊥
UpToWidest (fin false m e) = m * up e ≤ 45000 * down e
