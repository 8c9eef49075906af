-- Every arctangent and arccosine that solve_path asks is served: for unit vectors, all the numbers between are bounded.
-- So the lock, the angle to the nearer pole and the frame are those of definitions without a fallback.
use mathlib.Core.Path.{◌≡◌, refl, ap, ◌∙◌}
use mathlib.Core.Bool.{Bool, true, false, cond}
use Prim.Native.Nat.{ℕ, ◌+◌, ◌≤◌, ◌<◌}
use native.Mathlib.Omega.{arith}
use lib.Dec.{lit≤}
use lib.Ieee as Ieee
use lib.Ieee.{Float, binary64, neg}
use lib.Ieee.Fits.{neg-fits}
use Rattle.std.specs.Prelude.{None, Option, Some}
use Rattle.float.specs.Units.{U}
use Rattle.float.specs.Helpers.{nought, one, size_of, clamp_unit, minimum, to_degrees}
use Rattle.float.proofs.Bounded.{Small, finite_small, small_neg, one_small, clamp_fits}
use Rattle.float.proofs.Rounding.{U_pos}
use Rattle.float.proofs.Signed.{neg_is, lt_val}
use Rattle.float.proofs.Sizes.{size_is}
use Rattle.float.proofs.UpTo.{one_is}
use Rattle.trig.specs.Arccosine.{sine_of_cosine}
use Rattle.trig.specs.Arctangent.{angle_float}
use Rattle.trig.proofs.ArccosineLaws.{clamped_range}
use Rattle.trig.proofs.Choices.{chosen}
use Rattle.trig.proofs.Laws.{arccosine_is}
use Rattle.geometry.specs.declared.Turn.{Turn}
use Rattle.geometry.specs.declared.Vec3.{Vec3}
use Rattle.geometry.specs.Vector.{scale, dot, norm, minus, times}
use Rattle.geometry.specs.Turn.{turn_of, rotate_vector}
use Rattle.geometry.proofs.Bounded.{SmallVec, vec_raise, turn_small, small_dot, vec_add, vec_sub, vec_scale, turned_vector}
use Rattle.geometry.proofs.FitVectors.{dot_fits}
use Rattle.geometry.proofs.Lengths.{norm_small}
use Rattle.geometry.proofs.Quotients.{not_below, over_length}
use Rattle.geometry.proofs.Range.{Turnable, plain_turn, turn_served}
use Rattle.inverse.specs.Subproblem.{shortest}
use Rattle.inverse.specs.AxisMap.{minus_one, placed, hint_x, hint_y}
use Rattle.inverse.specs.declared.Angles.{Angles}
use Rattle.inverse.specs.declared.AxisMap.{AxisMap}
use Rattle.inverse.proofs.Arctangents.{plain_sp1, sp1_plain}
use Rattle.path.specs.declared.SingularFrame.{SingularFrame}
use Rattle.path.specs.Singular.{in_sense, frame_on, frame_of_two, pole_clearance_deg, nearest_pole, millionth, thousandth}
use Rattle.path.specs.Locking.{square_part, on_circle, closest_on_circle, fixed_only, toward, fit, fit_second, fit_first, fitted, locks_x, locked_x, locked_y, locked_angles}

-- ---- the frame: the loop of the Rust starts from -1, and of two rotaries takes the first unless the second is nearer
unfoldable pub loop_frame : Vec3 → Vec3 → Vec3 → Option SingularFrame
loop_frame first second spindle =
    cond (Ieee.lt (neg one) (size_of (dot first spindle)))
    (cond (Ieee.lt (size_of (dot first spindle)) (size_of (dot second spindle)))
    (frame_on true second spindle (size_of (dot second spindle)) (size_of (dot first spindle)))
    (frame_on false first spindle (size_of (dot first spindle)) (size_of (dot second spindle))))
    (cond (Ieee.lt (neg one) (size_of (dot second spindle)))
    (frame_on true second spindle (size_of (dot second spindle)) (size_of (dot first spindle)))
    (frame_on false first spindle (neg one) (size_of (dot second spindle))))

alignment_number : (axis spindle : Vec3) → SmallVec 1 axis → SmallVec 1 spindle → Ieee.lt (neg one) (size_of (dot axis spindle)) ≡ true
alignment_number axis spindle A S =
    let d = small_dot 1 1 7 axis spindle (lit≤ tt) (lit≤ tt) A S in
    lt_val (neg one) (size_of (dot axis spindle)) true false U d.v (neg_is one false U one_is) (size_is (dot axis spindle) d.s d.v d.is) (above U d.v U_pos)
  where
    above : (u v : ℕ) → 0 < u → 0 + 0 < v + u
    above u v h = omega arith

pub frame_loop : (first second spindle : Vec3) → SmallVec 1 first → SmallVec 1 spindle → frame_of_two first second spindle ≡ loop_frame first second spindle
unfolding frame_of_two loop_frame
frame_loop first second spindle A S = rw (alignment_number first spindle A S)

-- ---- the angle to the nearer pole
abbrev plain_arccosine : Float → Float
plain_arccosine c = angle_float (sine_of_cosine c) c

unfoldable pub plain_clearance : Vec3 → Vec3 → Float
plain_clearance axis direction =
    to_degrees (minimum (plain_arccosine (clamp_unit (dot axis direction))) (plain_arccosine (neg (clamp_unit (dot axis direction)))))

pub clearance_plain : (axis direction : Vec3) → SmallVec 2 axis → SmallVec 2 direction → pole_clearance_deg axis direction ≡ plain_clearance axis direction
unfolding pole_clearance_deg plain_clearance
clearance_plain axis direction A D =
    let f = clamp_fits (dot axis direction) (dot_fits axis direction) in
    let r = clamped_range (dot axis direction) (dot_fits axis direction) (finite_small 9 (dot axis direction) (small_dot 2 2 9 axis direction (lit≤ tt) (lit≤ tt) A D)) in
    rw (arccosine_is (clamp_unit (dot axis direction)) f r.0, arccosine_is (neg (clamp_unit (dot axis direction))) (neg-fits binary64 (clamp_unit (dot axis direction)) f) r.1)

-- ---- the point nearest to a query on a circle is bounded
abbrev NearestSmall : Option Vec3 → Type 0
NearestSmall (Some c) = SmallVec 300 c
NearestSmall None = Unit {0}

square_small : (w v : Vec3) → SmallVec 1 w → SmallVec 60 v → SmallVec 70 (square_part v w)
unfolding square_part
square_small w v W Y =
    vec_sub 60 68 68 70 v (scale w (dot w v)) (lit≤ tt) (lit≤ tt) (lit≤ tt) (lit≤ tt) Y
    (vec_scale 1 66 68 w (dot w v) (lit≤ tt) (lit≤ tt) W (small_dot 1 60 66 w v (lit≤ tt) (lit≤ tt) W Y))

length_small : (v : Vec3) → SmallVec 70 v → Small 100 (norm v)
length_small v A = norm_small v (vec_raise 70 90 v (lit≤ tt) A)

circle_small : (axis : Vec3) (along radius : Float) (qPerp : Vec3) → SmallVec 1 axis → Small 66 along → Small 100 radius → SmallVec 70 qPerp → NearestSmall (on_circle axis along radius qPerp)
unfolding on_circle
circle_small axis along radius qPerp A L R Q =
    let n = length_small qPerp Q in
    chosen NearestSmall (Ieee.lt (norm qPerp) shortest) _ _ (λ h. tt)
    (λ h. vec_add 68 202 202 300 _ _ (lit≤ tt) (lit≤ tt) (lit≤ tt) (lit≤ tt) (vec_scale 1 66 68 axis along (lit≤ tt) (lit≤ tt) A L)
    (vec_scale 70 131 202 qPerp _ (lit≤ tt) (lit≤ tt) Q (over_length 100 100 131 radius (norm qPerp) (lit≤ tt) (lit≤ tt) R n (not_below 100 (norm qPerp) n h))))

closest_small : (axis point query : Vec3) → SmallVec 1 axis → SmallVec 60 point → SmallVec 60 query → NearestSmall (closest_on_circle axis point query)
unfolding closest_on_circle
closest_small axis point query A P Q =
    chosen NearestSmall (Ieee.lt (norm (square_part point axis)) shortest) _ _ (λ h. tt)
    (λ h. circle_small axis (dot axis point) (norm (square_part point axis)) (square_part query axis) A (small_dot 1 60 66 axis point (lit≤ tt) (lit≤ tt) A P) (length_small (square_part point axis) (square_small axis point A P)) (square_small axis query A Q))

-- ---- the fitted angle, by subproblem 1 without its fallback
abbrev plain_toward : Vec3 → Vec3 → Option Vec3 → Option Float
plain_toward axis point (Some c) = fixed_only (plain_sp1 axis point c)
plain_toward axis point None = None

unfoldable pub plain_fit : Vec3 → Vec3 → Vec3 → Option Float
plain_fit axis point query = plain_toward axis point (closest_on_circle axis point query)

toward_plain : (axis point : Vec3) (n : Option Vec3) → SmallVec 1 axis → SmallVec 60 point → NearestSmall n → toward axis point n ≡ plain_toward axis point n
toward_plain axis point (Some c) A P N = ap fixed_only (sp1_plain axis point c A (vec_raise 60 300 point (lit≤ tt) P) N)
toward_plain axis point None A P N = refl

fit_plain : (axis point query : Vec3) → SmallVec 1 axis → SmallVec 60 point → SmallVec 60 query → fit axis point query ≡ plain_fit axis point query
unfolding fit plain_fit
fit_plain axis point query A P Q = toward_plain axis point (closest_on_circle axis point query) A P (closest_small axis point query A P Q)

-- ---- the locked angles
unfoldable pub plain_locked_angles : AxisMap → Bool → Vec3 → Vec3 → Angles → Angles
plain_locked_angles m onSecond spindle target previous =
    cond (locks_x m onSecond)
    (placed m (hint_x m previous)
    (times m.y_sign (fitted (plain_fit m.wb spindle (rotate_vector m.wa target (plain_turn (neg (times m.x_sign (hint_x m previous)))))) (times m.y_sign (hint_y m previous)))))
    (placed m
    (times m.x_sign (fitted (plain_fit m.wa (rotate_vector m.wb spindle (plain_turn (times m.y_sign (hint_y m previous)))) target) (times m.x_sign (hint_x m previous))))
    (hint_y m previous))

module _ (m : AxisMap) (spindle target : Vec3) (WA : SmallVec 1 m.wa) (Wb : SmallVec 1 m.wb) (S : SmallVec 1 spindle) (R : SmallVec 10 target) where
  turned_small : (axis v : Vec3) (degrees : Float) → SmallVec 1 axis → SmallVec 10 v → SmallVec 60 (rotate_vector axis v (turn_of degrees))
  turned_small axis v degrees A Y = vec_raise 56 60 _ (lit≤ tt) (turned_vector 10 axis v (lit≤ tt) (vec_raise 1 17 axis (lit≤ tt) A) Y (turn_of degrees) (turn_small degrees))

  second_plain : (x : Float) → Turnable x → fit_second m spindle target x ≡ plain_fit m.wb spindle (rotate_vector m.wa target (plain_turn (neg x)))
  unfolding fit_second
  second_plain x X =
      fit_plain m.wb spindle (rotate_vector m.wa target (turn_of (neg x))) Wb (vec_raise 1 60 spindle (lit≤ tt) S) (turned_small m.wa target (neg x) WA R)
      ∙ ap (λ (t : Turn). plain_fit m.wb spindle (rotate_vector m.wa target t)) (turn_served (neg x) X.back)

  first_plain : (y : Float) → Turnable y → fit_first m spindle target y ≡ plain_fit m.wa (rotate_vector m.wb spindle (plain_turn y)) target
  unfolding fit_first
  first_plain y Y =
      fit_plain m.wa (rotate_vector m.wb spindle (turn_of y)) target WA (turned_small m.wb spindle y Wb (vec_raise 1 10 spindle (lit≤ tt) S)) (vec_raise 10 60 target (lit≤ tt) R)
      ∙ ap (λ (t : Turn). plain_fit m.wa (rotate_vector m.wb spindle t) target) (turn_served y Y.forth)

  pub locked_plain : (previous : Angles) → Turnable (times m.x_sign (hint_x m previous)) → Turnable (times m.y_sign (hint_y m previous)) → (onSecond : Bool)
      → locked_angles m onSecond spindle target previous ≡ plain_locked_angles m onSecond spindle target previous
  unfolding locked_angles plain_locked_angles locked_x locked_y
  locked_plain previous X Y onSecond = rw (second_plain (times m.x_sign (hint_x m previous)) X, first_plain (times m.y_sign (hint_y m previous)) Y)

-- ---- the singular direction and the poles are bounded
abbrev pub FrameSmall : Option SingularFrame → Type 0
FrameSmall (Some f) = SmallVec 2 f.direction
FrameSmall None = Unit {0}

sense_small : (k n : ℕ) (axis : Vec3) (along : Float) → k + 1 ≤ n → n ≤ 900 → SmallVec k axis → SmallVec n (in_sense axis along)
unfolding in_sense
sense_small k n axis along h o A =
    chosen (SmallVec n) (Ieee.le nought along) _ _ (λ e. vec_raise k n axis (omega arith) A) (λ e. vec_scale k 0 n axis minus_one (omega arith) o A (small_neg 0 one one_small))

on_small : (onSecond : Bool) (axis spindle : Vec3) (best other : Float) → SmallVec 1 axis → FrameSmall (frame_on onSecond axis spindle best other)
unfolding frame_on
on_small onSecond axis spindle best other A =
    chosen FrameSmall (Ieee.lt best (minus one millionth)) _ _ (λ h. tt)
    (λ h. chosen FrameSmall (Ieee.lt thousandth other) _ _ (λ g. tt) (λ g. sense_small 1 2 axis (dot axis spindle) (lit≤ tt) (lit≤ tt) A))

pub two_small : (first second spindle : Vec3) → SmallVec 1 first → SmallVec 1 second → FrameSmall (frame_of_two first second spindle)
unfolding frame_of_two
two_small first second spindle A D =
    chosen FrameSmall (Ieee.lt (size_of (dot first spindle)) (size_of (dot second spindle))) _ _ (λ h. on_small true second spindle _ _ D) (λ h. on_small false first spindle _ _ A)

pub pole_small : (target direction : Vec3) → SmallVec 2 direction → SmallVec 10 (nearest_pole target direction)
unfolding nearest_pole
pole_small target direction D = sense_small 2 10 direction (dot target direction) (lit≤ tt) (lit≤ tt) D
