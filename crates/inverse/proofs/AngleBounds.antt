-- Every angle that inverse and choose turn a rotary by is finite and within 36,900 degrees (`wrapped_within`), so
-- within the 45,000 in which a turn is made of a sine and a cosine. An angle that subproblem 1 answers is at most 180;
-- with a hint of at most 36,000 a raw angle is at most 36,180, and two turns more are 36,900.
use mathlib.Core.Path.{◌≡◌, refl, subst}
use mathlib.Core.Bool.{true, false, and-eq-true_iff}
use mathlib.Core.List.{List, []}
use Prim.Native.Nat.{ℕ, ◌*◌, ◌^◌, ◌≤◌}
use lib.Dec.{T, lit≤, lit<}
use lib.Ieee as Ieee
use lib.Ieee.{Float, binary64, neg, of_bits, fits}
use Rattle.std.specs.Prelude.{None, Option, Some}
use Rattle.lists.specs.Each.{Each}
use Rattle.lists.proofs.Each.{each_more, fold_keeps}
use Rattle.float.specs.Units.{U}
use Rattle.float.specs.Helpers.{nought, one, size_of, clamp_unit}
use Rattle.float.proofs.UpTo.{UpTo, up_to_more, up_to_neg, up_to_add, up_to_sub, up_to_mul, nought_up_to}
use Rattle.float.proofs.Bounded.{one_small}
use Rattle.trig.specs.Arctangent.{arctangent_of}
use Rattle.trig.proofs.AngleDegrees.{degrees_up_to}
use Rattle.trig.proofs.Choices.{chosen}
use Rattle.geometry.specs.declared.Vec3.{Vec3}
use Rattle.geometry.specs.Vector.{scale, dot, cross, norm, plus, minus, times, over}
use Rattle.geometry.proofs.Range.{Turnable, up_to_turnable}
use Rattle.geometry.proofs.FitVectors.{dot_fits}
use Rattle.chain.specs.declared.RotaryLimits.{RotaryLimits}
use Rattle.chain.specs.declared.Kinematics.{Kinematics}
use Rattle.chain.specs.declared.Carrier.{Carrier}
use Rattle.chain.specs.declared.Carrier.TheVariants.{Table, Head}
use Rattle.chain.specs.declared.Spin.{Spin}
use Rattle.chain.specs.declared.Prepared.{Prepared}
use Rattle.chain.specs.Prepared.{prepared}
use Rattle.chain.proofs.NeverFallback.{within_up_to}
use Rattle.inverse.specs.Subproblem.{gap_tolerance, shortest, square_part, fixed_at, turned_by, between_parts, sp1, both_solved, solved_pair, on_circle, sine_beside, both_points, in_frame, about_circle, through_point, beside, sp2, apply_angle}
use Rattle.inverse.specs.AxisMap.{minus_one, map_of, inner_of, axis_map_of, placed, hint_x, hint_y, angles}
use Rattle.inverse.specs.Orientation.{sign_of, one_angle, one_joint_angles, sigma_of, shared_turn, by_total, parallel_angles, raw_of, two_joint_angles, counted_raw, orientation_angles}
use Rattle.inverse.specs.Wraps.{one_turn, two_turns, allowed, keep_allowed, angle_candidates, has, angles_of, add_pair, add_row, add_rows, add_raw, expand_wraps, second_travel}
use Rattle.inverse.specs.Inverse.{raw_angles, wrapped, hint_within}
use Rattle.inverse.specs.declared.Angles.{Angles}
use Rattle.inverse.specs.declared.AxisMap.{AxisMap}
use Rattle.inverse.specs.UpToTwo.{RawPair, SolvedPairs}
use Rattle.inverse.specs.declared.SolvedAngle.{SolvedAngle}
use Rattle.inverse.specs.declared.SolvedAngle.TheVariants.{Fixed, Free}

-- ---- subproblem 1: a fixed angle is at most 180 degrees
abbrev pub FixedAngle : SolvedAngle → Type 0
FixedAngle (Fixed angle) = UpTo 180 angle
FixedAngle Free = Unit {0}

abbrev pub FixedIn : Option SolvedAngle → Type 0
FixedIn (Some x) = FixedAngle x
FixedIn None = Unit {0}

turned_by_fixed : (w u v : Vec3) → FixedIn (turned_by w u v)
unfolding turned_by
turned_by_fixed w u v = go (arctangent_of (dot w (cross u v)) (dot u v)) refl
  where
    go : (a : Option Float) → arctangent_of (dot w (cross u v)) (dot u v) ≡ a → FixedIn (fixed_at a)
    go (Some r) e = degrees_up_to (dot w (cross u v)) (dot u v) r (dot_fits w (cross u v)) (dot_fits u v) e
    go None e = tt

parts_within : (w u v : Vec3) → FixedIn (between_parts w u v)
unfolding between_parts
parts_within w u v =
    chosen FixedIn (Ieee.lt gap_tolerance (size_of (minus (norm u) (norm v)))) _ _ (λ e. tt)
    (λ e. chosen FixedIn (Ieee.lt (norm u) shortest) _ _ (λ e. tt) (λ e. turned_by_fixed w u v))

pub sp1_within : (w u v : Vec3) → FixedIn (sp1 w u v)
unfolding sp1
sp1_within w u v = chosen FixedIn (Ieee.lt gap_tolerance (size_of (minus (dot w u) (dot w v)))) _ _ (λ e. tt) (λ e. parts_within w (square_part u w (dot w u)) (square_part v w (dot w v)))

pub fixed_within : (w u v : Vec3) (angle : Float) → sp1 w u v ≡ Some (Fixed angle) → UpTo 180 angle
fixed_within w u v angle e = subst FixedIn e (sp1_within w u v)

-- ---- subproblem 2
abbrev FixedPair : Option (SolvedAngle × SolvedAngle) → Type 0
FixedPair (Some (x, y)) = FixedAngle x × FixedAngle y
FixedPair None = Unit {0}

abbrev FixedPairs : SolvedPairs → Type 0
FixedPairs p = FixedPair p.first × FixedPair p.second

both_within : (y x : Option SolvedAngle) → FixedIn y → FixedIn x → FixedPair (both_solved y x)
both_within (Some y) (Some x) p q = (q, p)
both_within (Some y) None p q = tt
both_within None x p q = tt

pair_within : (wa wb p q c : Vec3) → FixedPair (solved_pair wa wb p q c)
unfolding solved_pair
pair_within wa wb p q c = both_within (sp1 wb p c) (sp1 wa c q) (sp1_within wb p c) (sp1_within wa c q)

points_within : (wa wb p q e1 e2 : Vec3) (cosine qa rho : Float) → FixedPairs (both_points wa wb p q e1 e2 cosine qa rho)
unfolding both_points
points_within wa wb p q e1 e2 cosine qa rho =
    chosen FixedPairs (Ieee.le (sine_beside cosine) shortest) _ _
    (λ e. (pair_within wa wb p q (on_circle wa qa rho e1 e2 cosine (times one (sine_beside cosine))), tt))
    (λ e. (pair_within wa wb p q (on_circle wa qa rho e1 e2 cosine (times one (sine_beside cosine))), pair_within wa wb p q (on_circle wa qa rho e1 e2 cosine (times (neg one) (sine_beside cosine)))))

frame_within : (wa wb p q e1 : Vec3) (cosine qa rho : Float) → FixedPairs (in_frame wa wb p q e1 cosine qa rho)
unfolding in_frame
frame_within wa wb p q e1 cosine qa rho =
    chosen FixedPairs (Ieee.le (norm (cross wa e1)) shortest) _ _ (λ e. (tt, tt)) (λ e. points_within wa wb p q e1 (scale (cross wa e1) (over one (norm (cross wa e1)))) cosine qa rho)

circle_within : (wa wb p q e1 : Vec3) (cosine qa rho : Float) → FixedPairs (about_circle wa wb p q e1 cosine qa rho)
unfolding about_circle
circle_within wa wb p q e1 cosine qa rho = chosen FixedPairs (Ieee.lt (plus one gap_tolerance) (size_of cosine)) _ _ (λ e. (tt, tt)) (λ e. frame_within wa wb p q e1 (clamp_unit cosine) qa rho)

point_within : (wa wb p q wbPerp : Vec3) (wbLen d qa rho : Float) → FixedPairs (through_point wa wb p q wbPerp wbLen d qa rho)
unfolding through_point
point_within wa wb p q wbPerp wbLen d qa rho =
    chosen FixedPairs (Ieee.eq rho nought) _ _ (λ e. (pair_within wa wb p q (scale wa qa), tt))
    (λ e. circle_within wa wb p q (scale wbPerp (over one wbLen)) (over (minus (dot wb p) (times d qa)) (times rho wbLen)) qa rho)

sp2_within : (wa wb p q : Vec3) → FixedPairs (sp2 wa wb p q)
unfolding sp2 beside
sp2_within wa wb p q =
    let perp = square_part wb wa (dot wa wb) in
    chosen FixedPairs (Ieee.le (norm perp) shortest) _ _ (λ e. (tt, tt)) (λ e. point_within wa wb p q perp (norm perp) (dot wa wb) (dot wa q) (norm (square_part q wa (dot wa q))))

-- ---- the signs are 1 and -1
minus_up_to : UpTo 1 minus_one
minus_up_to = up_to_neg 1 one one_small

abbrev pub Signs : AxisMap → Type 0
Signs m = UpTo 1 m.x_sign × UpTo 1 m.y_sign

map_signs : (a b : Carrier) (v w : Vec3) → Signs (map_of a b v w)
map_signs Table Table v w = (minus_up_to, minus_up_to)
map_signs Table Head v w = (minus_up_to, one_small)
map_signs Head Table v w = (minus_up_to, one_small)
map_signs Head Head v w = (one_small, one_small)

pub axis_signs : (p : Prepared) → Signs (axis_map_of p)
unfolding axis_map_of
axis_signs p = map_signs p.first.carrier (inner_of p).carrier p.first.axis (inner_of p).axis

carrier_sign : (m : Carrier) → UpTo 1 (sign_of m)
carrier_sign Table = minus_up_to
carrier_sign Head = one_small

-- ---- the raw angles
abbrev pub PairUpTo : ℕ → Angles → Type 0
PairUpTo n a = UpTo n a.a0 × UpTo n a.a1

pub placed_up_to : (n : ℕ) (m : AxisMap) (x y : Float) → UpTo n x → UpTo n y → PairUpTo n (placed m x y)
unfolding placed
placed_up_to n m x y X Y = chosen (PairUpTo n) m.swapped _ _ (λ e. (Y, X)) (λ e. (X, Y))

pub hint_x_up_to : (n : ℕ) (m : AxisMap) (hint : Angles) → PairUpTo n hint → UpTo n (hint_x m hint)
unfolding hint_x
hint_x_up_to n m hint H = chosen (UpTo n) m.swapped _ _ (λ e. H.1) (λ e. H.0)

pub hint_y_up_to : (n : ℕ) (m : AxisMap) (hint : Angles) → PairUpTo n hint → UpTo n (hint_y m hint)
unfolding hint_y
hint_y_up_to n m hint H = chosen (UpTo n) m.swapped _ _ (λ e. H.0) (λ e. H.1)

applied : (x : SolvedAngle) (sign hint : Float) → FixedAngle x → UpTo 1 sign → UpTo 36000 hint → UpTo 36180 (apply_angle x sign hint)
applied (Fixed angle) sign hint X S H = up_to_more 180 36180 _ (lit≤ tt) (up_to_mul 1 180 sign angle (lit< tt) S X)
applied Free sign hint X S H = up_to_more 36000 36180 hint (lit≤ tt) H

abbrev pub RawUpTo : Option Angles → Type 0
RawUpTo (Some a) = PairUpTo 36180 a
RawUpTo None = Unit {0}

abbrev pub RawsUpTo : RawPair → Type 0
RawsUpTo r = RawUpTo r.first × RawUpTo r.second

one_within : (a : Option SolvedAngle) (sign : Float) (hint : Angles) → FixedIn a → UpTo 1 sign → PairUpTo 36000 hint → RawUpTo (one_angle a sign hint)
one_within (Some x) sign hint A S H = (applied x sign hint.a0 A S H.0, up_to_more 0 36180 nought (lit≤ tt) nought_up_to)
one_within None sign hint A S H = tt

sigma_up_to : (m : AxisMap) → UpTo 1 (sigma_of m)
unfolding sigma_of
sigma_up_to m = chosen (UpTo 1) (Ieee.le nought (dot m.wa m.wb)) _ _ (λ e. one_small) (λ e. minus_up_to)

module _ (m : AxisMap) (S : Signs m) (hint : Angles) (H : PairUpTo 36000 hint) where
  shared_within : (total sigma : Float) → UpTo 180 total → UpTo 1 sigma → PairUpTo 36180 (shared_turn m total sigma hint)
  unfolding shared_turn
  shared_within total sigma R G =
      let x = hint_x_up_to 36000 m hint H in
      let y = hint_y_up_to 36000 m hint H in
      chosen (PairUpTo 36180) m.inner_is_x _ _
      (λ e. placed_up_to 36180 m _ _ (up_to_more 36000 36180 _ (lit≤ tt) x)
      (up_to_mul 1 36180 _ _ (lit< tt) S.1 (up_to_mul 1 36180 _ _ (lit< tt) G (up_to_sub 180 36000 _ _ (lit< tt) R (up_to_mul 1 36000 _ _ (lit< tt) S.0 x)))))
      (λ e. placed_up_to 36180 m _ _
      (up_to_mul 1 36180 _ _ (lit< tt) S.0 (up_to_sub 180 36000 _ _ (lit< tt) R (up_to_mul 1 36000 _ _ (lit< tt) G (up_to_mul 1 36000 _ _ (lit< tt) S.1 y))))
      (up_to_more 36000 36180 _ (lit≤ tt) y))

  total_within : (a : Option SolvedAngle) → FixedIn a → RawUpTo (by_total m hint a)
  total_within (Some Free) A = (up_to_more 36000 36180 _ (lit≤ tt) H.0, up_to_more 36000 36180 _ (lit≤ tt) H.1)
  total_within (Some (Fixed turn)) A = shared_within turn (sigma_of m) A (sigma_up_to m)
  total_within None A = tt

  pair_raw : (a : Option (SolvedAngle × SolvedAngle)) → FixedPair a → RawUpTo (raw_of m a hint)
  unfolding angles
  pair_raw (Some (x, y)) A =
      placed_up_to 36180 m _ _ (applied x m.x_sign (hint_x m hint) A.0 S.0 (hint_x_up_to 36000 m hint H)) (applied y m.y_sign (hint_y m hint) A.1 S.1 (hint_y_up_to 36000 m hint H))
  pair_raw None A = tt

  two_within : (spindle target : Vec3) → RawsUpTo (two_joint_angles m spindle target hint)
  unfolding two_joint_angles parallel_angles
  two_within spindle target =
      let s = sp2_within m.wa m.wb spindle target in
      chosen RawsUpTo (Ieee.lt (norm (cross m.wa m.wb)) shortest) _ _ (λ e. (total_within (sp1 m.wa spindle target) (sp1_within m.wa spindle target), tt))
      (λ e. (pair_raw (sp2 m.wa m.wb spindle target).first s.0, pair_raw (sp2 m.wa m.wb spindle target).second s.1))

by_count : (o : Option Spin) (single both : RawPair) → RawsUpTo single → RawsUpTo both → RawsUpTo (counted_raw o single both)
by_count None single both A B = A
by_count (Some s) single both A B = B

-- the raw angles of any target: within 36,180
pub raw_within : (p : Prepared) (target : Vec3) (hint : Angles) → PairUpTo 36000 hint → RawsUpTo (orientation_angles p target hint)
unfolding orientation_angles one_joint_angles
raw_within p target hint H =
    by_count p.second _ _
    (one_within (sp1 p.first.axis p.spindle target) (sign_of p.first.carrier) hint (sp1_within p.first.axis p.spindle target) (carrier_sign p.first.carrier) H, tt)
    (two_within (axis_map_of p) (axis_signs p) hint H p.spindle target)

-- ---- whole turns
keep_within : (travel : Option RotaryLimits) (l : List Float) (angle : Float) → Each (UpTo 36900) l → UpTo 36900 angle → Each (UpTo 36900) (keep_allowed travel l angle)
unfolding keep_allowed
keep_within travel l angle L A = chosen (Each (UpTo 36900)) (allowed travel angle) _ _ (λ e. each_more (UpTo 36900) l angle L A) (λ e. L)

two_turns_up_to : UpTo 720 two_turns
unfolding of_bits U
two_turns_up_to = record { s = false; v = 720 * 2 ^ 1074; is = (refl, refl); most = lit≤ tt }

one_turn_up_to : UpTo 360 one_turn
unfolding of_bits U
one_turn_up_to = record { s = false; v = 360 * 2 ^ 1074; is = (refl, refl); most = lit≤ tt }

candidates_within : (angle : Float) (travel : Option RotaryLimits) → UpTo 36180 angle → Each (UpTo 36900) (angle_candidates angle travel)
unfolding angle_candidates
candidates_within angle travel A =
    fold_keeps (Each (UpTo 36900)) (UpTo 720) _ (λ l turn L R. keep_within travel l (plus angle turn) L (up_to_add 36180 720 angle turn (lit< tt) A R))
    _ [] tt
    (up_to_neg 720 _ two_turns_up_to, (up_to_neg 720 _ (up_to_more 360 720 _ (lit≤ tt) one_turn_up_to), (up_to_more 0 720 _ (lit≤ tt) nought_up_to, (up_to_more 360 720 _ (lit≤ tt) one_turn_up_to, (two_turns_up_to, tt)))))

pair_added : (a0 : Float) (l : List Angles) (a1 : Float) → UpTo 36900 a0 → Each (PairUpTo 36900) l → UpTo 36900 a1 → Each (PairUpTo 36900) (add_pair a0 l a1)
unfolding add_pair
pair_added a0 l a1 A L B = chosen (Each (PairUpTo 36900)) (has (angles_of a0 a1) l) _ _ (λ e. L) (λ e. each_more (PairUpTo 36900) l (angles_of a0 a1) L (A, B))

row_added : (second : List Float) (l : List Angles) (a0 : Float) → Each (UpTo 36900) second → Each (PairUpTo 36900) l → UpTo 36900 a0 → Each (PairUpTo 36900) (add_row second l a0)
unfolding add_row
row_added second l a0 S L A = fold_keeps (Each (PairUpTo 36900)) (UpTo 36900) (add_pair a0) (λ m a1 M B. pair_added a0 m a1 A M B) second l L S

rows_added : (first second : List Float) (l : List Angles) → Each (UpTo 36900) first → Each (UpTo 36900) second → Each (PairUpTo 36900) l → Each (PairUpTo 36900) (add_rows first second l)
unfolding add_rows
rows_added first second l F S L = fold_keeps (Each (PairUpTo 36900)) (UpTo 36900) (add_row second) (λ m a0 M A. row_added second m a0 S M A) first l L F

raw_added : (first second : Option RotaryLimits) (raw : Option Angles) (l : List Angles) → RawUpTo raw → Each (PairUpTo 36900) l → Each (PairUpTo 36900) (add_raw first second raw l)
raw_added first second (Some raw) l R L = rows_added _ _ l (candidates_within raw.a0 first R.0) (candidates_within raw.a1 second R.1) L
raw_added first second None l R L = L

pub wrapped_within : (k : Kinematics) (target : Vec3) (hint : Angles) → PairUpTo 36000 hint → Each (PairUpTo 36900) (wrapped k target hint)
unfolding wrapped expand_wraps raw_angles
wrapped_within k target hint H =
    let R = raw_within (prepared k) target hint H in
    let raw = orientation_angles (prepared k) target hint in
    raw_added k.first.limits (second_travel k) raw.second _ R.1 (raw_added k.first.limits (second_travel k) raw.first [] R.0 tt)

-- ---- a hint, and the turns
pub hint_up_to : (hint : Angles) → T (fits binary64 hint.a0) → T (fits binary64 hint.a1) → hint_within hint ≡ true → PairUpTo 36000 hint
unfolding hint_within
hint_up_to hint f g h = let t = (and-eq-true_iff _ _).0 h in (within_up_to hint.a0 f t.0, within_up_to hint.a1 g t.1)

abbrev pub BothTurnable : Angles → Type 0
BothTurnable a = Turnable a.a0 × Turnable a.a1

pub both_turnable : (n : ℕ) (a : Angles) → n ≤ 45000 → PairUpTo n a → BothTurnable a
both_turnable n a h A = (up_to_turnable n a.a0 h A.0, up_to_turnable n a.a1 h A.1)
