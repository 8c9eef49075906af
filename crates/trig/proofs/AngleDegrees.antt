-- Sizes of angles. An arctangent is a double, and in degrees at most 180 in size: so every angle that a chain is turned
-- by, made of such ones and of whole turns, stays within a bound that a caller can add up. An arccosine is at most 4
-- radians, and a sine and a cosine are served up to 800.
use Rattle.std.proofs.Common.{◌≡◌, ℕ, ◌+◌, ◌-◌, ◌*◌, ◌/◌, ◌≤◌, Bool, true, false, cond, not, T, ltb, sym, refl, ap, ◌∙◌, subst}
use lib.Ieee.{Float, binary64, round, mul, neg, of_bits, le, lt, eq, fits}
use lib.Ieee.Bits.{of_bits-fits, is_true}
use lib.Ieee.Fits.{mul-fits, neg-fits, cond-fits}
use lib.Ieee.Positive.{positive}
use lib.Ieee.Scale.{finite}
use Rattle.std.specs.Prelude.{None, Option, Some}
use Rattle.float.specs.Units.{U, Is}
use Rattle.float.specs.Helpers.{negative, to_degrees}
use Rattle.float.proofs.Monotone.{mul_mono}
use Rattle.float.proofs.Sizes.{parts_size_le}
use Rattle.float.proofs.Order as order
use Rattle.float.proofs.UpTo.{UpTo, up_to_more, up_to_le, double_up_to}
use Rattle.trig.specs.Kernel.{plus_zero}
use Rattle.trig.specs.Reduction.{quarter_pi}
use Rattle.trig.specs.Direction.{pi}
use Rattle.trig.specs.Arctangent.{start_float, passes, grid_angle, grid_float, quarter_float, rise_float, lean_float, back_float, flat_float, ratio_float, right_float, left_float, pi_float, upper_float, level_float, angle_float, arctangent_of}
use Rattle.trig.specs.Arccosine.{sine_of_cosine, cosine_range, arccosine_of}
use Rattle.trig.specs.Waves.{most, served}
use Rattle.trig.proofs.ArctangentLaws.{start_fits}
use Rattle.trig.proofs.ArccosineLaws.{sine_fits}
use Rattle.trig.proofs.Laws.{arctangent_least, arctangent_greatest, arccosine_is, arccosine_value, arccosine_least, arccosine_greatest}

abbrev Double : Float → Type 0
Double x = T (fits binary64 x)

grid_double : (i : ℕ) → Double (grid_float i)
unfolding grid_float
grid_double i = mul-fits binary64 _ _

quarter_double : (z : ℕ) → Double (quarter_float z)
unfolding quarter_float
quarter_double z = mul-fits binary64 _ _

rise_double : (i : ℕ) → Double (rise_float i)
unfolding rise_float
rise_double i = cond-fits binary64 (ltb ((14148475504056880 - i) / 4) 1768559438007111) _ _ (quarter_double (1768559438007111)) (quarter_double ((14148475504056880 - i) / 4))

lean_double : (i : ℕ) → Double (lean_float i)
unfolding lean_float
lean_double i = cond-fits binary64 (ltb 5305678314021330 ((14148475504056880 + i) / 4 + 1)) _ _ (quarter_double (5305678314021330)) (quarter_double ((14148475504056880 + i) / 4 + 1))

back_double : (i : ℕ) → Double (back_float i)
unfolding back_float
back_double i = cond-fits binary64 (ltb ((28296951008113761 - i) / 4) 5305678314021331) _ _ (quarter_double (5305678314021331)) (quarter_double ((28296951008113761 - i) / 4))

flat_double : (t : Float) → Double (flat_float t)
unfolding flat_float
flat_double t =
    cond-fits binary64 (lt plus_zero (start_float t)) _ _
    (cond-fits binary64 (le (start_float t) quarter_pi) _ _ (cond-fits binary64 (passes t (start_float t)) _ _ (start_fits t) (grid_double _)) (grid_double _))
    (grid_double _)

right_double : (y x : Float) → Double (right_float y x)
unfolding right_float
right_double y x = cond-fits binary64 (le y x) _ _ (flat_double (ratio_float y x)) (rise_double (grid_angle (ratio_float x y)))

left_double : (y b : Float) → Double (left_float y b)
unfolding left_float
left_double y b = cond-fits binary64 (le b y) _ _ (lean_double (grid_angle (ratio_float b y))) (back_double (grid_angle (ratio_float y b)))

upper_double : (y x : Float) → Double (upper_float y x)
unfolding upper_float
upper_double y x = cond-fits binary64 (eq x plus_zero) _ _ (of_bits-fits binary64 _) (cond-fits binary64 (lt x plus_zero) _ _ (left_double y (neg x)) (right_double y x))

level_double : (y x : Float) → Double y → Double (level_float y x)
unfolding level_float
level_double y x f = cond-fits binary64 (negative x) _ _ (cond-fits binary64 (negative y) _ _ (neg-fits binary64 pi_float (of_bits-fits binary64 _)) (of_bits-fits binary64 _)) f

angle_double : (y x : Float) → Double y → Double (angle_float y x)
unfolding angle_float
angle_double y x f =
    cond-fits binary64 (eq y plus_zero) _ _ (level_double y x f)
    (cond-fits binary64 (lt y plus_zero) _ _ (neg-fits binary64 _ (upper_double (neg y) x)) (upper_double y x))

abbrev DoubleAnswer : Option Float → Type 0
DoubleAnswer (Some r) = Double r
DoubleAnswer None = Unit {0}

answer_double : (y x : Float) → Double y → DoubleAnswer (arctangent_of y x)
unfolding arctangent_of
answer_double y x f = go (finite y) (finite x)
  where
    go : (a b : Bool) → DoubleAnswer (cond (not a) None (cond (not b) None (Some (angle_float y x))))
    go true true = angle_double y x f
    go true false = tt
    go false b = tt

pub arctangent_double : (y x r : Float) → T (fits binary64 y) → arctangent_of y x ≡ Some r → T (fits binary64 r)
arctangent_double y x r f e = subst DoubleAnswer e (answer_double y x f)

pub arccosine_double : (c r : Float) → T (fits binary64 c) → arccosine_of c ≡ Some r → T (fits binary64 r)
arccosine_double c r f e = let h = (arccosine_value c r f e).0 in subst Double (same h) (angle_double (sine_of_cosine c) c (sine_fits c f h))
  where
    given : Option Float → Float
    given (Some y) = y
    given None = plus_zero

    same : cosine_range c ≡ true → angle_float (sine_of_cosine c) c ≡ r
    same h = ap given (sym (arccosine_is c f h) ∙ e)

-- ---- in degrees
abbrev per_radian : Float
per_radian = of_bits binary64 0x404c_a5dc_1a63_c1f8

abbrev half_turn : Float
half_turn = of_bits binary64 0x4066_8000_0000_0000

half_turn_is : Is half_turn false (180 * U)
unfolding of_bits U
half_turn_is = (refl, refl)

pi_degrees : mul binary64 pi per_radian ≡ half_turn
unfolding mul round of_bits
pi_degrees = refl

back_degrees : mul binary64 (neg pi) per_radian ≡ neg half_turn
unfolding mul round of_bits neg
back_degrees = refl

per_radian_positive : T (positive per_radian)
unfolding of_bits
per_radian_positive = tt

pi_double : Double pi
unfolding fits
pi_double = tt

pub degrees_up_to : (y x r : Float) → T (fits binary64 y) → T (fits binary64 x) → arctangent_of y x ≡ Some r → UpTo 180 (to_degrees r)
unfolding to_degrees
degrees_up_to y x r f g e =
    let d = arctangent_double y x r f e in
    let c = of_bits-fits binary64 0x404c_a5dc_1a63_c1f8 in
    double_up_to 180 half_turn half_turn_is (mul binary64 r per_radian) (mul-fits binary64 r per_radian)
    (parts_size_le (mul binary64 r per_radian) half_turn
    (ap (λ (z : Float). le z (mul binary64 r per_radian)) (sym back_degrees) ∙ mul_mono (neg pi) r per_radian (neg-fits binary64 pi pi_double) d c per_radian_positive (is_true _ (arctangent_least y x r f g e)))
    (ap (λ (z : Float). le (mul binary64 r per_radian) z) (sym pi_degrees) ∙ mul_mono r pi per_radian d pi_double c per_radian_positive (is_true _ (arctangent_greatest y x r f g e))))

-- ---- radians: an arccosine, and what a sine and a cosine serve
abbrev four : Float
four = of_bits binary64 0x4010_0000_0000_0000

four_is : Is four false (4 * U)
unfolding of_bits U
four_is = (refl, refl)

pi_four : le pi four ≡ true
unfolding le lt eq of_bits
pi_four = refl

four_zero : le (neg four) plus_zero ≡ true
unfolding le lt eq neg of_bits
four_zero = refl

pub arccosine_up_to : (c r : Float) → T (fits binary64 c) → arccosine_of c ≡ Some r → UpTo 4 r
arccosine_up_to c r f e =
    double_up_to 4 four four_is r (arccosine_double c r f e)
    (parts_size_le r four (order.le_trans (neg four) plus_zero r four_zero (is_true _ (arccosine_least c r f e))) (order.le_trans r pi four (is_true _ (arccosine_greatest c r f e)) pi_four))

most_is : Is most false (800 * U)
unfolding of_bits U
most_is = (refl, refl)

pub up_to_served : (n : ℕ) (x : Float) → n ≤ 800 → UpTo n x → served x ≡ true
unfolding served
up_to_served n x h X = let p = up_to_le 800 most most_is x (up_to_more n 800 x h X) in rw (p.1, p.0)
