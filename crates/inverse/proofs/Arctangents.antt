-- Every arctangent that inverse asks is served: for unit vectors both of its arguments are finite, since every point
-- between is bounded. So the raw angles are those of subproblem 1 without its fallback (`orientation_plain`).
use mathlib.Core.Path.{◌≡◌, refl, sym, ap, ◌∙◌}
use mathlib.Core.Bool.{Bool, true, false, cond}
use Prim.Native.Nat.{ℕ, ◌+◌, ◌^◌, ◌≤◌}
use native.Mathlib.Omega.{arith}
use lib.Dec.{lit≤}
use lib.Ieee as Ieee
use lib.Ieee.{Float, binary64, neg}
use lib.Ieee.Fits.{mul-fits}
use Rattle.std.specs.Prelude.{None, Ok, Option, Some}
use Rattle.std.specs.Option.{unwrap_or}
use Rattle.float.specs.Helpers.{nought, one, size_of, clamp_unit, to_degrees}
use Rattle.float.proofs.Bounded as B
use Rattle.float.proofs.Bounded.{Small, finite_small, small_neg, one_small, clamped_quotient, product_apart}
use Rattle.root.proofs.RootSizes.{root_apart, root_of_max}
use Rattle.trig.specs.Arctangent.{angle_float}
use Rattle.trig.proofs.Laws.{arctangent_is}
use Rattle.geometry.specs.declared.Vec3.{Vec3}
use Rattle.geometry.specs.Vector.{scale, dot, cross, norm, plus, minus, times, over}
use Rattle.geometry.proofs.Bounded.{SmallVec, vec_raise, small_dot, small_cross, vec_add, vec_sub, vec_scale}
use Rattle.geometry.specs.Doubles.{FitVec}
use Rattle.geometry.proofs.FitVectors.{dot_fits}
use Rattle.geometry.proofs.Lengths.{dot_nn, norm_small}
use Rattle.geometry.proofs.Quotients.{long_enough, not_short, over_length}
use Rattle.geometry.proofs.UnitSize.{unit_small}
use Rattle.chain.specs.declared.Carrier.{Carrier}
use Rattle.chain.specs.declared.Carrier.TheVariants.{Table, Head}
use Rattle.chain.specs.declared.Spin.{Spin}
use Rattle.chain.specs.declared.Prepared.{Prepared}
use Rattle.geometry.specs.Direction.{unit_direction}
use Rattle.chain.specs.declared.Kinematics.{Kinematics}
use Rattle.chain.specs.Check.{chain_check}
use Rattle.chain.specs.Prepared.{prepared}
use Rattle.chain.proofs.UnitAxes.{FitAxes, SecondUnit, UnitChain, chain_units}
use Rattle.inverse.specs.declared.SolvedAngle.{SolvedAngle}
use Rattle.inverse.specs.Inverse.{raw_angles}
use Rattle.inverse.specs.Subproblem.{gap_tolerance, shortest, square_part, fixed_at, turned_by, between_parts, sp1, both_solved, solved_pair, on_circle, sine_beside, both_points, in_frame, about_circle, through_point, beside, sp2}
use Rattle.inverse.specs.AxisMap.{map_of, inner_of, axis_map_of}
use Rattle.inverse.specs.Orientation.{sign_of, one_angle, one_joint_angles, by_total, parallel_angles, raw_pair, two_joint_angles, counted_raw, orientation_angles}
use Rattle.inverse.specs.declared.Angles.{Angles}
use Rattle.inverse.specs.declared.AxisMap.{AxisMap}
use Rattle.inverse.specs.UpToTwo.{RawPair, SolvedPairs, first_only}
use Rattle.inverse.specs.declared.SolvedAngle.TheVariants.{Fixed, Free}

cond_same : {A : Type 0} (b : Bool) (x x' y y' : A) → (b ≡ true → x ≡ x') → (b ≡ false → y ≡ y') → cond b x y ≡ cond b x' y'
cond_same true x x' y y' f g = f refl
cond_same false x x' y y' f g = g refl

-- ---- subproblem 1 without the fallback
abbrev plain_fixed : Vec3 → Vec3 → Vec3 → Option SolvedAngle
plain_fixed w u v = Some (Fixed (to_degrees (angle_float (dot w (cross u v)) (dot u v))))

abbrev plain_parts : Vec3 → Vec3 → Vec3 → Option SolvedAngle
plain_parts w u v = cond (Ieee.lt gap_tolerance (size_of (minus (norm u) (norm v)))) None (cond (Ieee.lt (norm u) shortest) (Some Free) (plain_fixed w u v))

unfoldable pub plain_sp1 : Vec3 → Vec3 → Vec3 → Option SolvedAngle
plain_sp1 w u v = cond (Ieee.lt gap_tolerance (size_of (minus (dot w u) (dot w v)))) None (plain_parts w (square_part u w (dot w u)) (square_part v w (dot w v)))

square_small : (k n : ℕ) (w v : Vec3) → k + 10 ≤ n → n ≤ 900 → SmallVec 1 w → SmallVec k v → SmallVec n (square_part v w (dot w v))
unfolding square_part
square_small k n w v h o W D =
    vec_sub k (k + 8) (k + 8) n v (scale w (dot w v)) (omega arith) (omega arith) (omega arith) o D (vec_scale 1 (k + 6) (k + 8) w (dot w v) (omega arith) (omega arith) W (small_dot 1 k (k + 6) w v (omega arith) (omega arith) W D))

turned_plain : (w u v : Vec3) → SmallVec 1 w → SmallVec 310 u → SmallVec 310 v → turned_by w u v ≡ plain_fixed w u v
unfolding turned_by
turned_plain w u v W P Q =
    ap fixed_at
    (arctangent_is (dot w (cross u v)) (dot u v)
    (finite_small 700 (dot w (cross u v)) (small_dot 1 623 700 w (cross u v) (lit≤ tt) (lit≤ tt) W (small_cross 310 310 623 u v (lit≤ tt) (lit≤ tt) P Q)))
    (finite_small 625 (dot u v) (small_dot 310 310 625 u v (lit≤ tt) (lit≤ tt) P Q)))

pub sp1_plain : (w u v : Vec3) → SmallVec 1 w → SmallVec 300 u → SmallVec 300 v → sp1 w u v ≡ plain_sp1 w u v
unfolding sp1 between_parts plain_sp1
sp1_plain w u v W P Q =
    let u' = square_part u w (dot w u) in
    let v' = square_part v w (dot w v) in
    ap (λ (s : Option SolvedAngle). cond (Ieee.lt gap_tolerance (size_of (minus (dot w u) (dot w v)))) None (cond (Ieee.lt gap_tolerance (size_of (minus (norm u') (norm v')))) None (cond (Ieee.lt (norm u') shortest) (Some Free) s)))
    (turned_plain w u' v' W (square_small 300 310 w u (lit≤ tt) (lit≤ tt) W P) (square_small 300 310 w v (lit≤ tt) (lit≤ tt) W Q))

-- ---- subproblem 2 over any subproblem 1
abbrev pub Sub1 : Type 0
Sub1 = Vec3 → Vec3 → Vec3 → Option SolvedAngle

unfoldable pub pair_with : Sub1 → Vec3 → Vec3 → Vec3 → Vec3 → Vec3 → Option (SolvedAngle × SolvedAngle)
pair_with s wa wb p q c = both_solved (s wb p c) (s wa c q)

unfoldable pub points_with : Sub1 → Vec3 → Vec3 → Vec3 → Vec3 → Vec3 → Vec3 → Float → Float → Float → SolvedPairs
points_with s wa wb p q e1 e2 cosine qa rho =
    cond (Ieee.le (sine_beside cosine) shortest)
    (first_only (pair_with s wa wb p q (on_circle wa qa rho e1 e2 cosine (times one (sine_beside cosine)))))
    (record {
      first = pair_with s wa wb p q (on_circle wa qa rho e1 e2 cosine (times one (sine_beside cosine)));
      second = pair_with s wa wb p q (on_circle wa qa rho e1 e2 cosine (times (Ieee.neg one) (sine_beside cosine)));
    })

unfoldable pub frame_with : Sub1 → Vec3 → Vec3 → Vec3 → Vec3 → Vec3 → Float → Float → Float → SolvedPairs
frame_with s wa wb p q e1 cosine qa rho =
    cond (Ieee.le (norm (cross wa e1)) shortest) (first_only None)
    (points_with s wa wb p q e1 (scale (cross wa e1) (over one (norm (cross wa e1)))) cosine qa rho)

unfoldable pub circle_with : Sub1 → Vec3 → Vec3 → Vec3 → Vec3 → Vec3 → Float → Float → Float → SolvedPairs
circle_with s wa wb p q e1 cosine qa rho =
    cond (Ieee.lt (plus one gap_tolerance) (size_of cosine)) (first_only None) (frame_with s wa wb p q e1 (clamp_unit cosine) qa rho)

unfoldable pub through_with : Sub1 → Vec3 → Vec3 → Vec3 → Vec3 → Vec3 → Float → Float → Float → Float → SolvedPairs
through_with s wa wb p q wbPerp wbLen d qa rho =
    cond (Ieee.eq rho nought) (first_only (pair_with s wa wb p q (scale wa qa)))
    (circle_with s wa wb p q (scale wbPerp (over one wbLen)) (over (minus (dot wb p) (times d qa)) (times rho wbLen)) qa rho)

unfoldable pub sp2_with : Sub1 → Vec3 → Vec3 → Vec3 → Vec3 → SolvedPairs
sp2_with s wa wb p q =
    cond (Ieee.le (norm (square_part wb wa (dot wa wb))) shortest) (first_only None)
    (through_with s wa wb p q (square_part wb wa (dot wa wb)) (norm (square_part wb wa (dot wa wb))) (dot wa wb) (dot wa q) (norm (square_part q wa (dot wa q))))

pub sp2_is : (wa wb p q : Vec3) → sp2_with sp1 wa wb p q ≡ sp2 wa wb p q
unfolding sp2_with through_with circle_with frame_with points_with pair_with sp2 beside through_point about_circle in_frame both_points solved_pair
sp2_is wa wb p q = refl

sine_small : (cosine : Float) → Small 0 cosine → Small 100 (sine_beside cosine)
unfolding sine_beside
sine_small cosine C =
    root_of_max 5 _ (lit≤ tt) (mul-fits binary64 _ _)
    (B.times 2 2 5 _ _ (lit≤ tt) (lit≤ tt) (B.minus 0 0 0 2 one cosine (lit≤ tt) (lit≤ tt) (lit≤ tt) (lit≤ tt) one_small C) (B.plus 0 0 0 2 one cosine (lit≤ tt) (lit≤ tt) (lit≤ tt) (lit≤ tt) one_small C))

module _ (wa wb p q : Vec3) (WA : SmallVec 1 wa) (Wb : SmallVec 1 wb) (P : SmallVec 1 p) (Q : SmallVec 1 q) where
  pair_same : (c : Vec3) → SmallVec 300 c → pair_with sp1 wa wb p q c ≡ pair_with plain_sp1 wa wb p q c
  unfolding pair_with
  pair_same c C =
      ap (λ (s : Option SolvedAngle). both_solved s (sp1 wa c q)) (sp1_plain wb p c Wb (vec_raise 1 300 p (lit≤ tt) P) C)
      ∙ ap (λ (s : Option SolvedAngle). both_solved (plain_sp1 wb p c) s) (sp1_plain wa c q WA C (vec_raise 1 300 q (lit≤ tt) Q))

  circle_small : (qa rho : Float) (e1 e2 : Vec3) (cosine sine : Float) → Small 7 qa → Small 100 rho → SmallVec 43 e1 → SmallVec 79 e2 → Small 0 cosine → Small 101 sine → SmallVec 300 (on_circle wa qa rho e1 e2 cosine sine)
  unfolding on_circle
  circle_small qa rho e1 e2 cosine sine A R E F C S =
      vec_add 9 284 284 300 _ _ (lit≤ tt) (lit≤ tt) (lit≤ tt) (lit≤ tt) (vec_scale 1 7 9 wa qa (lit≤ tt) (lit≤ tt) WA A)
      (vec_scale 183 100 284 _ rho (lit≤ tt) (lit≤ tt)
      (vec_add 44 181 181 183 _ _ (lit≤ tt) (lit≤ tt) (lit≤ tt) (lit≤ tt) (vec_scale 43 0 44 e1 cosine (lit≤ tt) (lit≤ tt) E C) (vec_scale 79 101 181 e2 sine (lit≤ tt) (lit≤ tt) F S)) R)

  points_same : (e1 e2 : Vec3) (cosine qa rho : Float) → SmallVec 43 e1 → SmallVec 79 e2 → Small 0 cosine → Small 7 qa → Small 100 rho → points_with sp1 wa wb p q e1 e2 cosine qa rho ≡ points_with plain_sp1 wa wb p q e1 e2 cosine qa rho
  unfolding points_with
  points_same e1 e2 cosine qa rho E F C A R =
      let s = sine_small cosine C in
      let up = pair_same (on_circle wa qa rho e1 e2 cosine (times one (sine_beside cosine))) (circle_small qa rho e1 e2 cosine _ A R E F C (B.times 0 100 101 one (sine_beside cosine) (lit≤ tt) (lit≤ tt) one_small s)) in
      let down = pair_same (on_circle wa qa rho e1 e2 cosine (times (Ieee.neg one) (sine_beside cosine))) (circle_small qa rho e1 e2 cosine _ A R E F C (B.times 0 100 101 (neg one) (sine_beside cosine) (lit≤ tt) (lit≤ tt) (small_neg 0 one one_small) s)) in
      cond_same (Ieee.le (sine_beside cosine) shortest) _ _ _ _ (λ h. ap first_only up)
      (λ h. ap (λ (x : Option (SolvedAngle × SolvedAngle)). record { first = x; second = pair_with sp1 wa wb p q (on_circle wa qa rho e1 e2 cosine (times (Ieee.neg one) (sine_beside cosine))) }) up
      ∙ ap (λ (y : Option (SolvedAngle × SolvedAngle)). record { first = pair_with plain_sp1 wa wb p q (on_circle wa qa rho e1 e2 cosine (times one (sine_beside cosine))); second = y }) down)

  frame_same : (e1 : Vec3) (cosine qa rho : Float) → SmallVec 43 e1 → Small 0 cosine → Small 7 qa → Small 100 rho → frame_with sp1 wa wb p q e1 cosine qa rho ≡ frame_with plain_sp1 wa wb p q e1 cosine qa rho
  unfolding frame_with
  frame_same e1 cosine qa rho E C A R =
      let n = small_cross 1 43 47 wa e1 (lit≤ tt) (lit≤ tt) WA E in
      let l = norm_small (cross wa e1) (vec_raise 47 90 (cross wa e1) (lit≤ tt) n) in
      cond_same (Ieee.le (norm (cross wa e1)) shortest) _ _ _ _ (λ h. refl)
      (λ h. points_same e1 (scale (cross wa e1) (over one (norm (cross wa e1)))) cosine qa rho E
      (vec_scale 47 31 79 (cross wa e1) _ (lit≤ tt) (lit≤ tt) n (over_length 0 100 31 one (norm (cross wa e1)) (lit≤ tt) (lit≤ tt) one_small l (not_short 100 (norm (cross wa e1)) l h))) C A R)

  circle_same : (e1 : Vec3) (cosine qa rho : Float) → SmallVec 43 e1 → Small 0 (clamp_unit cosine) → Small 7 qa → Small 100 rho → circle_with sp1 wa wb p q e1 cosine qa rho ≡ circle_with plain_sp1 wa wb p q e1 cosine qa rho
  unfolding circle_with
  circle_same e1 cosine qa rho E C A R = cond_same (Ieee.lt (plus one gap_tolerance) (size_of cosine)) _ _ _ _ (λ h. refl) (λ h. frame_same e1 (clamp_unit cosine) qa rho E C A R)

  -- the square part of wb, its length of more than 1e-9, and the length of the square part of q
  abbrev perp : Vec3
  perp = square_part wb wa (dot wa wb)

  perp_small : SmallVec 11 perp
  perp_small = square_small 1 11 wa wb (lit≤ tt) (lit≤ tt) WA Wb

  abbrev side : Vec3
  side = square_part q wa (dot wa q)

  side_small : SmallVec 11 side
  side_small = square_small 1 11 wa q (lit≤ tt) (lit≤ tt) WA Q

  norm_11 : (v : Vec3) → SmallVec 11 v → Small 100 (norm v)
  norm_11 v D = norm_small v (vec_raise 11 90 v (lit≤ tt) D)

  length_apart : Ieee.eq (norm side) nought ≡ false → (Y : Small 100 (norm side)) → 2 ^ 537 ≤ Y.v
  unfolding norm
  length_apart h Y = root_apart 27 (dot side side) (dot_fits side side) (dot_nn 11 side side_small) (small_dot 11 11 27 side side (lit≤ tt) (lit≤ tt) side_small side_small) h 100 Y

  through_same : Ieee.le (norm perp) shortest ≡ false → through_with sp1 wa wb p q perp (norm perp) (dot wa wb) (dot wa q) (norm side) ≡ through_with plain_sp1 wa wb p q perp (norm perp) (dot wa wb) (dot wa q) (norm side)
  unfolding through_with
  through_same h =
      let l = norm_11 perp perp_small in
      let r = norm_11 side side_small in
      let far = not_short 100 (norm perp) l h in
      let a = small_dot 1 1 7 wa q (lit≤ tt) (lit≤ tt) WA Q in
      let d = small_dot 1 1 7 wa wb (lit≤ tt) (lit≤ tt) WA Wb in
      let b = small_dot 1 1 7 wb p (lit≤ tt) (lit≤ tt) Wb P in
      let n = B.minus 7 15 15 17 (dot wb p) (times (dot wa wb) (dot wa q)) (lit≤ tt) (lit≤ tt) (lit≤ tt) (lit≤ tt) b (B.times 7 7 15 (dot wa wb) (dot wa q) (lit≤ tt) (lit≤ tt) d a) in
      let z = B.times 100 100 201 (norm side) (norm perp) (lit≤ tt) (lit≤ tt) r l in
      cond_same (Ieee.eq (norm side) nought) _ _ _ _ (λ e. ap first_only (pair_same (scale wa (dot wa q)) (vec_scale 1 7 300 wa (dot wa q) (lit≤ tt) (lit≤ tt) WA a)))
      (λ e. circle_same (scale perp (over one (norm perp))) _ (dot wa q) (norm side)
      (vec_scale 11 31 43 perp _ (lit≤ tt) (lit≤ tt) perp_small (over_length 0 100 31 one (norm perp) (lit≤ tt) (lit≤ tt) one_small l far))
      (clamped_quotient 17 _ _ z.s z.v n z.is (product_apart 100 100 201 (norm side) (norm perp) r l z (length_apart e r) (long_enough 100 (norm perp) l far)))
      a r)

  sp2_same : sp2_with sp1 wa wb p q ≡ sp2_with plain_sp1 wa wb p q
  unfolding sp2_with
  sp2_same = cond_same (Ieee.le (norm perp) shortest) _ _ _ _ (λ h. refl) through_same

  pub sp2_plain : sp2 wa wb p q ≡ sp2_with plain_sp1 wa wb p q
  sp2_plain = sym (sp2_is wa wb p q) ∙ sp2_same

-- ---- the raw angles over any subproblem 1
unfoldable pub two_with : Sub1 → AxisMap → Vec3 → Vec3 → Angles → RawPair
two_with s m spindle target hint =
    cond (Ieee.lt (norm (cross m.wa m.wb)) shortest) (first_only (by_total m hint (s m.wa spindle target)))
    (raw_pair m (sp2_with s m.wa m.wb spindle target) hint)

unfoldable pub orientation_with : Sub1 → Prepared → Vec3 → Angles → RawPair
orientation_with s p target hint =
    counted_raw p.second (first_only (one_angle (s p.first.axis p.spindle target) (sign_of p.first.carrier) hint)) (two_with s (axis_map_of p) p.spindle target hint)

pub orientation_is : (p : Prepared) (target : Vec3) (hint : Angles) → orientation_with sp1 p target hint ≡ orientation_angles p target hint
unfolding orientation_with two_with orientation_angles one_joint_angles two_joint_angles parallel_angles
orientation_is p target hint =
    ap (λ (s : SolvedPairs). counted_raw p.second (first_only (one_angle (sp1 p.first.axis p.spindle target) (sign_of p.first.carrier) hint)) (cond (Ieee.lt (norm (cross (axis_map_of p).wa (axis_map_of p).wb)) shortest) (first_only (by_total (axis_map_of p) hint (sp1 (axis_map_of p).wa p.spindle target))) (raw_pair (axis_map_of p) s hint)))
    (sp2_is (axis_map_of p).wa (axis_map_of p).wb p.spindle target)

map_units : (a b : Carrier) (v w : Vec3) → SmallVec 1 v → SmallVec 1 w → SmallVec 1 (map_of a b v w).wa × SmallVec 1 (map_of a b v w).wb
map_units Table Table v w D W = (W, D)
map_units Table Head v w D W = (D, W)
map_units Head Table v w D W = (W, D)
map_units Head Head v w D W = (D, W)

pub axis_units : (p : Prepared) → SmallVec 1 p.first.axis → SmallVec 1 (inner_of p).axis → SmallVec 1 (axis_map_of p).wa × SmallVec 1 (axis_map_of p).wb
unfolding axis_map_of
axis_units p A D = map_units p.first.carrier (inner_of p).carrier p.first.axis (inner_of p).axis A D

two_same : (m : AxisMap) (spindle target : Vec3) (hint : Angles) → SmallVec 1 m.wa → SmallVec 1 m.wb → SmallVec 1 spindle → SmallVec 1 target → two_with sp1 m spindle target hint ≡ two_with plain_sp1 m spindle target hint
unfolding two_with
two_same m spindle target hint WA Wb S T =
    cond_same (Ieee.lt (norm (cross m.wa m.wb)) shortest) _ _ _ _
    (λ h. ap (λ (s : Option SolvedAngle). first_only (by_total m hint s)) (sp1_plain m.wa spindle target WA (vec_raise 1 300 spindle (lit≤ tt) S) (vec_raise 1 300 target (lit≤ tt) T)))
    (λ h. ap (λ (s : SolvedPairs). raw_pair m s hint) (sp2_same m.wa m.wb spindle target WA Wb S T))

by_count : (o : Option Spin) (first : Spin) (single single' both both' : RawPair) → SecondUnit o → single ≡ single' → (SmallVec 1 (unwrap_or o first).axis → both ≡ both') → counted_raw o single both ≡ counted_raw o single' both'
by_count None first single single' both both' S f g = f
by_count (Some s) first single single' both both' S f g = g S.small

orientation_same : (p : Prepared) (target : Vec3) (hint : Angles) → UnitChain p → SmallVec 1 target → orientation_with sp1 p target hint ≡ orientation_with plain_sp1 p target hint
unfolding orientation_with
orientation_same p target hint C T =
    by_count p.second (record p.first { carrier = Head }) _ _ _ _ C.second
    (ap (λ (s : Option SolvedAngle). first_only (one_angle s (sign_of p.first.carrier) hint)) (sp1_plain p.first.axis p.spindle target C.first.small (vec_raise 1 300 p.spindle (lit≤ tt) C.spindle.small) (vec_raise 1 300 target (lit≤ tt) T)))
    (λ S. let m = axis_units p C.first.small S in two_same (axis_map_of p) p.spindle target hint m.0 m.1 C.spindle.small T)

-- the raw angles of a unit target: `fixed_at OutOfRange` is not among what they are made of
pub orientation_plain : (p : Prepared) (target : Vec3) (hint : Angles) → UnitChain p → SmallVec 1 target → orientation_angles p target hint ≡ orientation_with plain_sp1 p target hint
orientation_plain p target hint C T = sym (orientation_is p target hint) ∙ orientation_same p target hint C T

-- ---- inverse: the target is the unit vector of the pose's axis
pub raw_plain : (k : Kinematics) → FitAxes k → chain_check k ≡ Ok tt → (axis target : Vec3) → FitVec axis → unit_direction axis ≡ Some target → (hint : Angles) → raw_angles k target hint ≡ orientation_with plain_sp1 (prepared k) target hint
unfolding raw_angles
raw_plain k F passed axis target A d hint = orientation_plain (prepared k) target hint (chain_units k F passed) (unit_small axis target A d)
