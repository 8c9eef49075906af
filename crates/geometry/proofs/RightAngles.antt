-- A table about Z at 90 degrees turns X exactly into Y, by computing Rodrigues' formula. At -90 and 180 degrees
-- it turns X into -Y and -X, with no -0.0.
use mathlib.Core.Path.{◌≡◌, refl}
use lib.Ieee.{Float, binary64, add, sub, mul, neg, of_bits, of_int, to_unsigned, le, lt, eq, round}
use Rattle.float.specs.Helpers.{nought, one, to_radians}
use Rattle.trig.specs.Kernel.{sine_kernel, cosine_kernel, sum, step, reciprocal}
use Rattle.trig.specs.Degrees.{turnable}
use Rattle.trig.specs.DegreeSteps.{degree_pair, sine_degrees, cosine_degrees, degree_float, degree_k, degree_below, degree_rest, quarter_turns, radians_of}
use Rattle.geometry.specs.Vector.{vector, cross, dot, scale}
use Rattle.geometry.specs.Vector as G
use Rattle.geometry.specs.declared.Vec3.{Vec3}
use Rattle.geometry.specs.Turn.{turn_of, rotate_vector}

abbrev X : Vec3
X = vector one nought nought

abbrev Y : Vec3
Y = vector nought one nought

abbrev Z : Vec3
Z = vector nought nought one

-- 90 and 180 degrees
abbrev pub ninety : Float
ninety = of_bits binary64 0x4056_8000_0000_0000

abbrev pub straight : Float
straight = of_bits binary64 0x4066_8000_0000_0000

pub turn_of_ninety : turn_of ninety ≡ record { sine = one; cosine = nought }
unfolding turn_of degree_pair turnable sine_degrees cosine_degrees degree_float degree_k degree_below degree_rest quarter_turns radians_of to_radians sine_kernel cosine_kernel sum step reciprocal add sub mul neg of_bits of_int to_unsigned le lt eq round
turn_of_ninety = refl

pub quarter_turn_back : turn_of (neg ninety) ≡ record { sine = neg one; cosine = nought }
unfolding turn_of degree_pair turnable sine_degrees cosine_degrees degree_float degree_k degree_below degree_rest quarter_turns radians_of to_radians sine_kernel cosine_kernel sum step reciprocal add sub mul neg of_bits of_int to_unsigned le lt eq round
quarter_turn_back = refl

pub turn_of_straight : turn_of straight ≡ record { sine = nought; cosine = neg one }
unfolding turn_of degree_pair turnable sine_degrees cosine_degrees degree_float degree_k degree_below degree_rest quarter_turns radians_of to_radians sine_kernel cosine_kernel sum step reciprocal add sub mul neg of_bits of_int to_unsigned le lt eq round
turn_of_straight = refl

pub x_to_y : rotate_vector Z X (turn_of ninety) ≡ Y
unfolding rotate_vector G.add cross dot scale add sub mul neg of_bits round
x_to_y = rw turn_of_ninety refl

pub x_to_minus_y : rotate_vector Z X (turn_of (neg ninety)) ≡ vector nought (neg one) nought
unfolding rotate_vector G.add cross dot scale add sub mul neg of_bits round
x_to_minus_y = rw quarter_turn_back refl

pub x_to_minus_x : rotate_vector Z X (turn_of straight) ≡ vector (neg one) nought nought
unfolding rotate_vector G.add cross dot scale add sub mul neg of_bits round
x_to_minus_x = rw turn_of_straight refl

pub y_to_minus_x : rotate_vector Z Y (turn_of ninety) ≡ vector (neg one) nought nought
unfolding rotate_vector G.add cross dot scale add sub mul neg of_bits round
y_to_minus_x = rw turn_of_ninety refl
