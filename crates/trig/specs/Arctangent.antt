-- The arctangent as the code makes it: a polynomial's guess, a check of its residual in floats, and a bisection where
-- the check fails. Definitions only.
-- Angles from 0 to Pi / 4 are whole numbers i of 2 ^ -53, up to 7074237752028440. The other angles are reached from
-- there in whole numbers of 2 ^ -51.
use Rattle.std.specs.Prelude.{◌≡◌, ℕ, zero, suc, ◌+◌, ◌-◌, ◌/◌, ◌≤◌, Bool, true, false, cond, not, ◌&&◌, pos, negsuc, ◌==◌, from_bits, nat_lt, Float, None, Option, Some}
use Rattle.std.specs.Float.{fin, binary64}
use Rattle.std.specs.Float.Ieee.{add, sub, mul, div, neg, of_int, to_unsigned, le, lt, eq}
use Rattle.trig.specs.Kernel.{plus_zero, one, sine_kernel, cosine_kernel}
use Rattle.trig.specs.Reduction.{quarter_pi}
use Rattle.std.specs.Float.Ieee.Scale.{finite}
use Rattle.float.specs.Helpers.{negative}
use Rattle.trig.specs.Direction.{Direction}

-- ---- the guess: nothing is promised of it
-- a - b w + v (c - d w), for v = w w
abbrev four : Float → Float → Float → Float → Float → Float → Float
four a b c d w v = add binary64 (sub binary64 a (mul binary64 b w)) (mul binary64 v (sub binary64 c (mul binary64 d w)))

-- the arctangent of u, up to 0.4143 in size: u times a polynomial of the eleventh degree in w = u u, near
-- 1 - w / 3 + w w / 5 - ..
abbrev polynomial : Float → Float → Float → Float
polynomial w v q =
    add binary64 (four one (from_bits binary64 0x3fd5_5555_5555_5555) (from_bits binary64 0x3fc9_9999_9999_932e) (from_bits binary64 0x3fc2_4924_9243_4992) w v)
    (mul binary64 q (add binary64 (four (from_bits binary64 0x3fbc_71c7_1844_817b) (from_bits binary64 0x3fb7_45d0_b01b_e884) (from_bits binary64 0x3fb3_b125_f7f3_f520) (from_bits binary64 0x3fb1_0fa4_60dd_6e79) w v)
    (mul binary64 q (four (from_bits binary64 0x3fad_fe2e_be99_b2b4) (from_bits binary64 0x3faa_0880_440d_55f1) (from_bits binary64 0x3fa4_12ff_8ed2_a9c8) (from_bits binary64 0x3f93_9b57_1eaf_17ab) w v))))

unfoldable pub arc : Float → Float
arc u = mul binary64 u (polynomial (mul binary64 u u) (mul binary64 (mul binary64 u u) (mul binary64 u u)) (mul binary64 (mul binary64 (mul binary64 u u) (mul binary64 u u)) (mul binary64 (mul binary64 u u) (mul binary64 u u))))

-- the arctangent of t, from 0 to 1: Pi / 4 and that of (t - 1) / (t + 1) where t is above 0.41421356237309503
unfoldable pub start_float : Float → Float
unfolding arc
start_float t = cond (lt (from_bits binary64 0x3fda_8279_99fc_ef32) t) (add binary64 quarter_pi (arc (div binary64 (sub binary64 t one) (add binary64 t one)))) (arc t)

-- ---- on the grid
-- 7074237752028440 as a float
abbrev pub last_grid : Float
last_grid = from_bits binary64 0x4339_21fb_5444_2d18

-- a float cut to a whole number from 0 up to 7074237752028440
unfoldable pub cut : Float → ℕ
cut f = cond (lt plus_zero f) (cond (lt f last_grid) (to_unsigned 64 f) 7074237752028440) 0

-- the guess in units of 2 ^ -53, rounded
unfoldable pub guess : Float → ℕ
unfolding cut start_float
guess t = cut (add binary64 (mul binary64 (start_float t) (from_bits binary64 0x4340_0000_0000_0000)) (from_bits binary64 0x3fe0_0000_0000_0000))

-- i * 2 ^ -53, and z * 2 ^ -51
unfoldable pub grid_float : ℕ → Float
grid_float i = mul binary64 (of_int binary64 (pos i)) (fin false 1 (negsuc 52))

unfoldable pub quarter_float : ℕ → Float
quarter_float z = mul binary64 (of_int binary64 (pos z)) (fin false 1 (negsuc 50))

-- 2 ^ -50
abbrev pub slack : Float
slack = from_bits binary64 0x3cd0_0000_0000_0000

-- |t C(r) - S(r)| is at most 2 ^ -50, in floats
unfoldable pub passes : Float → Float → Bool
passes t r =
    cond (le (sine_kernel r) (add binary64 (mul binary64 t (cosine_kernel r)) slack)) (le (mul binary64 t (cosine_kernel r)) (add binary64 (sine_kernel r) slack)) false

-- S(r) ≤ t C(r) at r = i * 2 ^ -53, in floats
unfoldable pub steep : Float → ℕ → Bool
unfolding grid_float
steep t i = le (sine_kernel (grid_float i)) (mul binary64 t (cosine_kernel (grid_float i)))

-- bisection between lo and hi, n turns at most
unfoldable pub halve : ℕ → Float → ℕ → ℕ → ℕ
unfolding steep
halve zero t lo hi = lo
halve (suc n) t lo hi = cond (hi - lo == 1) lo (cond (steep t (lo + (hi - lo) / 2)) (halve n t (lo + (hi - lo) / 2) hi) (halve n t lo (lo + (hi - lo) / 2)))

-- i is what the bisection finds, whatever the number of turns, if it is large enough
abbrev pub Halved : Float → ℕ → ℕ → ℕ → Type 0
Halved t lo hi i = (n : ℕ) → hi - lo ≤ n → i ≡ halve n t lo hi

-- more turns than any bisection takes
unfoldable pub many_turns : ℕ
many_turns = 7074237752028440

-- the angle of the tangent t, in units of 2 ^ -53
unfoldable pub grid_angle : Float → ℕ
unfolding guess passes halve
grid_angle t = cond (passes t (grid_float (guess t))) (guess t) (halve many_turns t 0 7074237752028440)

-- ---- the four quarters of the half plane above the axis, and their clamps: the angle stays on its side of Pi / 4 and
-- 3 Pi / 4
-- Pi / 2 less i, Pi / 2 and i, Pi less i, in units of 2 ^ -53
unfoldable pub rise_float : ℕ → Float
unfolding quarter_float
rise_float i = cond (nat_lt ((14148475504056880 - i) / 4) 1768559438007111) (quarter_float 1768559438007111) (quarter_float ((14148475504056880 - i) / 4))

unfoldable pub lean_float : ℕ → Float
unfolding quarter_float
lean_float i = cond (nat_lt 5305678314021330 ((14148475504056880 + i) / 4 + 1)) (quarter_float 5305678314021330) (quarter_float ((14148475504056880 + i) / 4 + 1))

unfoldable pub back_float : ℕ → Float
unfolding quarter_float
back_float i = cond (nat_lt ((28296951008113761 - i) / 4) 5305678314021331) (quarter_float 5305678314021331) (quarter_float ((28296951008113761 - i) / 4))

-- below Pi / 4 the guess itself, where it passes: so a small angle keeps its digits
unfoldable pub flat_float : Float → Float
unfolding start_float passes grid_angle grid_float
flat_float t =
    cond (lt plus_zero (start_float t))
    (cond (le (start_float t) quarter_pi) (cond (passes t (start_float t)) (start_float t) (grid_float (grid_angle t))) (grid_float (grid_angle t)))
    (grid_float (grid_angle t))

-- a / b, at most 1
unfoldable pub ratio_float : Float → Float → Float
ratio_float a b = cond (le (div binary64 a b) one) (div binary64 a b) one

-- x above zero; x = -b below zero; y above zero
unfoldable pub right_float : Float → Float → Float
unfolding ratio_float flat_float rise_float grid_angle
right_float y x = cond (le y x) (flat_float (ratio_float y x)) (rise_float (grid_angle (ratio_float x y)))

unfoldable pub left_float : Float → Float → Float
unfolding ratio_float lean_float back_float grid_angle
left_float y b = cond (le b y) (lean_float (grid_angle (ratio_float b y))) (back_float (grid_angle (ratio_float y b)))

-- the double below pi / 2, and pi
abbrev pub half_pi : Float
half_pi = from_bits binary64 0x3ff9_21fb_5444_2d18

abbrev pub pi_float : Float
pi_float = from_bits binary64 0x4009_21fb_5444_2d18

unfoldable pub upper_float : Float → Float → Float
unfolding left_float right_float
upper_float y x = cond (eq x plus_zero) half_pi (cond (lt x plus_zero) (left_float y (neg x)) (right_float y x))

-- y is a zero
unfoldable pub level_float : Float → Float → Float
level_float y x = cond (negative x) (cond (negative y) (neg pi_float) pi_float) y

unfoldable pub angle_float : Float → Float → Float
unfolding level_float upper_float
angle_float y x = cond (eq y plus_zero) (level_float y x) (cond (lt y plus_zero) (neg (upper_float (neg y) x)) (upper_float y x))

-- ---- what `arctangent` answers, and what holds of it: an angle is given exactly where y and x are finite
unfoldable pub arctangent_of : Float → Float → Option Float
unfolding angle_float
arctangent_of y x = cond (not (finite y)) None (cond (not (finite x)) None (Some (angle_float y x)))

abbrev pub ArctangentAnswer : Float → Float → Option Float → Type 0
ArctangentAnswer y x (Some r) = ((finite y && finite x) ≡ true) × Direction y x r
ArctangentAnswer y x None = (finite y && finite x) ≡ false
