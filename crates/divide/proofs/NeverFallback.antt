-- Division takes no fallback, by the Rust's test or by the strict one. Every joint set that it comes to, given or
-- inserted, is finite, within 10,000,000 mm and within 36,000 degrees; so at every one, and at the middle and both
-- quarters of every two, `forward` itself answers, with the pose that the division takes (`division_plain`): its turns
-- are made of a sine and a cosine, and the axis that it reaches has a direction. And the angle that is compared with
-- the axis tolerance, and the axis between two that it is taken from, are made of an arctangent, an arccosine and sines
-- that are all served.
use mathlib.Core.Path.{◌≡◌, refl, sym, ap, ◌∙◌, subst}
use mathlib.Core.Bool.{true, false, ◌&&◌, and-eq-true_iff}
use mathlib.Core.List.{List, [], ◌∷◌, Memᴰ}
use Prim.Native.Nat.{ℕ, zero, suc, ◌+◌, ◌*◌, ◌/◌, ◌^◌}
use lib.Dec.{T, eqb, leb, eqb→eq, lit≤}
use lib.ListN.{length, get_or, drop}
use lib.Seq.{get_or-drop}
use lib.Ieee.{Float, nan, binary64, le, lt, eq, of_bits, fits}
use lib.Ieee.Bits.{of_bits-fits}
use Rattle.std.specs.Prelude.{Ok}
use Rattle.lists.specs.Each.{Each}
use Rattle.lists.specs.Rows.{rows}
use Rattle.lists.specs.Search.{all}
use Rattle.lists.proofs.Each.{each_passes, each_both}
use Rattle.float.specs.Units.{U}
use Rattle.float.specs.Helpers.{nought, size_of}
use Rattle.float.proofs.Between.{Portion, half_portion, quarter_portion, three_quarters_portion}
use Rattle.float.proofs.UpTo.{UpTo}
use Rattle.refusal.specs.declared.Cause.{Cause}
use Rattle.geometry.specs.Slerp.{slerp_axis, angle_between_deg}
use Rattle.geometry.proofs.AngleBetween.{angle_between}
use Rattle.geometry.specs.Doubles.{FitVec}
use Rattle.geometry.proofs.FitVectors.{unit_or_fits}
use Rattle.geometry.proofs.PlainSlerp.{plain_slerp, slerp_plain, slerp_fits}
use Rattle.chain.specs.declared.Joints.{Joints}
use Rattle.chain.specs.declared.Kinematics.{Kinematics}
use Rattle.chain.specs.Check.{demand, chain_check, within, longest, joints_within, chain_within}
use Rattle.chain.specs.Forward.{turns_of, reach, forward_core, length_good, forward_sizes, forward_check, forward}
use Rattle.chain.specs.Prepared.{prepared}
use Rattle.chain.proofs.NeverFallback.{ForwardPlain, forward_plain}
use Rattle.chain.proofs.Passing.{then_passed, demand_passed}
use Rattle.chain.proofs.UnitAxes.{FitAxes, chain_units}
use Rattle.path.specs.Solving.{poses_in, pose_from, path_chain}
use Rattle.path.proofs.NeverFallback.{plain_angle_between}
use Rattle.path.proofs.Room.{chain_of_path}
use Rattle.halving.specs.Halving.{Steps}
use Rattle.halving.proofs.Steps.{steps_all}
use Rattle.middle.specs.declared.Item.{Item}
use Rattle.middle.specs.declared.Tolerances.{Tolerances}
use Rattle.middle.specs.Testing.{half, quarter, three_quarters, joints_between, pose_of, midpoint, axis_gap, divides}
use Rattle.turn.specs.Items.{joints_from, item, items_in}
use Rattle.divide.specs.Checking.{tolerance_good, all_finite, tip_within, joint_sets_in, division_sizes, four_whole, checks_in_order, division_check}
use Rattle.divide.specs.Subdividing.{given}
use Rattle.divide.proofs.PriceSound.{half_fits, Sized, sized_way, sized_mid, sizes_finite}
use Rattle.divide.proofs.PricePath.{paired_given}

-- ---- one pose
-- `forward` answers the pose that division takes of a joint set, and takes no fallback
pub record PosePlain (k : Kinematics) (j : Joints) : Type 0 where
  pub answer : forward k j nought ≡ Ok (pose_of (prepared k) j)
  pub plain : ForwardPlain k j nought

no_length : length_good nought ≡ true
unfolding length_good lt of_bits
no_length = refl

no_tool : within nought longest ≡ true
unfolding within size_of le lt eq of_bits
no_tool = refl

module _ (k : Kinematics) (F : FitAxes k) (passed : chain_check k ≡ Ok tt) (pivots : chain_within k ≡ true) where
  joints_passed : (j : Joints) → joints_within j ≡ true → forward_check k j nought ≡ Ok tt
  unfolding forward_check forward_sizes
  joints_passed j h = rw (no_length, passed, sizes_finite j h, no_tool, h, pivots)

  pub pose_plain : (j : Joints) → joints_within j ≡ true → PosePlain k j
  unfolding pose_of
  pose_plain j h = let p = forward_plain k j nought F (joints_passed j h) in record { answer = p.answer; plain = p }

  axis_fits : (j : Joints) → FitVec (pose_of (prepared k) j).axis
  unfolding pose_of forward_core
  axis_fits j = unit_or_fits (reach (prepared k) (turns_of (prepared k) j.a0 j.a1) j.xyz nought).axis (prepared k).spindle (chain_units k F passed).spindle_fits

half_up_to : UpTo 1 half
unfolding of_bits U
half_up_to = record { s = false; v = 2 ^ 1073; is = (refl, refl); most = lit≤ tt }

quarter_up_to : UpTo 1 quarter
unfolding of_bits U
quarter_up_to = record { s = false; v = 2 ^ 1072; is = (refl, refl); most = lit≤ tt }

three_quarters_up_to : UpTo 1 three_quarters
unfolding of_bits U
three_quarters_up_to = record { s = false; v = 3 * 2 ^ 1072; is = (refl, refl); most = lit≤ tt }

-- ---- at a portion t of the way between two poses: the pose there, and the angle that is compared with the axis
-- tolerance
pub record PortionPlain (k : Kinematics) (x y : Item) (t : Float) : Type 0 where
  pub pose : PosePlain k (joints_between t x.joints y.joints)
  pub gap : angle_between_deg (pose_of (prepared k) (joints_between t x.joints y.joints)).axis (slerp_axis (pose_of (prepared k) x.joints).axis (pose_of (prepared k) y.joints).axis t)
      ≡ plain_angle_between (pose_of (prepared k) (joints_between t x.joints y.joints)).axis (plain_slerp (pose_of (prepared k) x.joints).axis (pose_of (prepared k) y.joints).axis t)

-- ---- two poses: both, their midpoint with the angle at it, and both quarters
pub record SegmentPlain (k : Kinematics) (x y : Item) : Type 0 where
  pub left : PosePlain k x.joints
  pub right : PosePlain k y.joints
  pub middle : PosePlain k (midpoint (prepared k) x y).joints
  pub taken : (midpoint (prepared k) x y).pose ≡ pose_of (prepared k) (midpoint (prepared k) x y).joints
  pub gap : axis_gap (pose_of (prepared k) x.joints).axis (pose_of (prepared k) y.joints).axis (midpoint (prepared k) x y)
      ≡ plain_angle_between (midpoint (prepared k) x y).pose.axis (plain_slerp (pose_of (prepared k) x.joints).axis (pose_of (prepared k) y.joints).axis half)
  pub first_quarter : PortionPlain k x y quarter
  pub last_quarter : PortionPlain k x y three_quarters

module _ (k : Kinematics) (F : FitAxes k) (passed : chain_check k ≡ Ok tt) (pivots : chain_within k ≡ true) (x y : Item) where
  portion_plain : (t : Float) → T (fits binary64 t) → Portion t → UpTo 1 t → Sized x.joints → Sized y.joints → PortionPlain k x y t
  unfolding plain_angle_between
  portion_plain t ft pt B X Y =
      let there = (pose_of (prepared k) (joints_between t x.joints y.joints)).axis in
      let from = (pose_of (prepared k) x.joints).axis in
      let to = (pose_of (prepared k) y.joints).axis in
      let G = axis_fits k F passed pivots x.joints in
      let H = axis_fits k F passed pivots y.joints in
      record {
        pose = pose_plain k F passed pivots (joints_between t x.joints y.joints) (sized_way t ft pt x.joints y.joints X Y).sizes;
        gap = angle_between there (slerp_axis from to t) (axis_fits k F passed pivots (joints_between t x.joints y.joints)) (slerp_fits from to t B G H)
            ∙ ap (plain_angle_between there) (slerp_plain t B from to G H);
      }

  pub segment_plain : Sized x.joints → Sized y.joints → SegmentPlain k x y
  unfolding midpoint axis_gap
  segment_plain A B =
      let at_half = portion_plain half half_fits half_portion half_up_to A B in
      record {
        left = pose_plain k F passed pivots x.joints A.sizes;
        right = pose_plain k F passed pivots y.joints B.sizes;
        middle = at_half.pose;
        taken = refl;
        gap = at_half.gap;
        first_quarter = portion_plain quarter (of_bits-fits binary64 0x3fd0_0000_0000_0000) quarter_portion quarter_up_to A B;
        last_quarter = portion_plain three_quarters (of_bits-fits binary64 0x3fe8_0000_0000_0000) three_quarters_portion three_quarters_up_to A B;
      }

-- ---- the given joint sets, read from lent numbers
abbrev AllFit : List Float → Type 0
AllFit l = (i : ℕ) → T (fits binary64 (get_or l i nan))

record JointsFit (j : Joints) : Type 0 where
  x : T (fits binary64 j.xyz.x)
  y : T (fits binary64 j.xyz.y)
  z : T (fits binary64 j.xyz.z)
  a0 : T (fits binary64 j.a0)
  a1 : T (fits binary64 j.a1)

rows_fit : (n : ℕ) (l : List Float) → AllFit l → Each JointsFit (rows 5 joints_from n l)
unfolding rows
rows_fit zero l h = tt
rows_fit (suc n) l h = (record { x = h 0; y = h 1; z = h 2; a0 = h 3; a1 = h 4 }, rows_fit n (drop 5 l) (λ i. subst (λ (z : Float). T (fits binary64 z)) (sym (get_or-drop 5 l i nan)) (h (5 + i))))

each_sized : (l : List Joints) → Each (λ j. (joints_within j ≡ true) × JointsFit j) l → Each Sized l
each_sized [] L = tt
each_sized (j ∷ l) L = let f = L.0.1 in (record { sizes = L.0.0; fits_x = f.x; fits_y = f.y; fits_z = f.z; fits_a0 = f.a0; fits_a1 = f.a1 }, each_sized l L.1)

-- ---- what the checks of a division leave
record Left (k : Kinematics) (poses joints : List Float) : Type 0 where
  chain : chain_check k ≡ Ok tt
  pivots : chain_within k ≡ true
  sets : all joints_within (joint_sets_in joints) ≡ true
  as_many : length poses / 6 ≡ length joints / 5

left : (k : Kinematics) (tol : Tolerances) (poses joints : List Float) (roomPoses roomJoints : ℕ) → division_check k tol poses joints roomPoses roomJoints ≡ Ok tt → Left k poses joints
unfolding division_check checks_in_order division_sizes
left k tol poses joints roomPoses roomJoints e =
    let a = then_passed (demand (four_whole (length poses) (length joints) roomPoses roomJoints) Cause.LengthsDiffer 0) _ e in
    let b = then_passed (demand (tolerance_good tol.chord) Cause.Tolerance 0) _ a.1 in
    let c = then_passed (demand (tolerance_good tol.axis) Cause.Tolerance 0) _ b.1 in
    let d = then_passed (demand (eqb (length poses / 6) (length joints / 5)) Cause.LengthsDiffer 0) _ c.1 in
    let f = then_passed (path_chain k) _ d.1 in
    let g = then_passed (demand (all_finite poses joints) Cause.NotFinite 0) _ f.1 in
    let s = demand_passed (chain_within k && all tip_within (poses_in poses) && all joints_within (joint_sets_in joints) && leb (length poses / 6) 100000) Cause.TooLarge 0 g.1 in
    let u = (and-eq-true_iff (chain_within k && all tip_within (poses_in poses) && all joints_within (joint_sets_in joints)) (leb (length poses / 6) 100000)).0 s in
    let v = (and-eq-true_iff (chain_within k && all tip_within (poses_in poses)) (all joints_within (joint_sets_in joints))).0 u.0 in
    record {
      chain = chain_of_path k f.0;
      pivots = ((and-eq-true_iff (chain_within k) (all tip_within (poses_in poses))).0 v.0).0;
      sets = v.1;
      as_many = eqb→eq (length poses / 6) (length joints / 5) (subst T (sym (demand_passed (eqb (length poses / 6) (length joints / 5)) Cause.LengthsDiffer 0 d.0)) tt);
    }

given_sized : (k : Kinematics) (poses joints : List Float) → AllFit joints → Left k poses joints → (i : Item) → Memᴰ i (given poses joints) → Sized i.joints
unfolding items_in joint_sets_in
given_sized k poses joints f w i m =
    paired_given item (λ q j. refl) Sized (rows 6 pose_from (length poses / 6) poses) (rows 5 joints_from (length poses / 6) joints)
    (subst (λ (n : ℕ). Each Sized (rows 5 joints_from n joints)) (sym w.as_many)
    (each_sized (rows 5 joints_from (length joints / 5) joints) (each_both (λ j. joints_within j ≡ true) JointsFit (rows 5 joints_from (length joints / 5) joints) (each_passes joints_within (rows 5 joints_from (length joints / 5) joints) w.sets) (rows_fit (length joints / 5) joints f)))) i m

-- ---- the theorem: of any two poses that the halving comes to, after as many steps as it likes
pub division_plain : (k : Kinematics) (tol : Tolerances) (poses joints : List Float) (roomPoses roomJoints : ℕ) → FitAxes k → ((i : ℕ) → T (fits binary64 (get_or joints i nan)))
    → division_check k tol poses joints roomPoses roomJoints ≡ Ok tt → {n : ℕ} {r : List Item} → Steps (divides (prepared k) tol) (midpoint (prepared k)) (given poses joints) n r
    → (x y : Item) → Memᴰ x r → Memᴰ y r → SegmentPlain k x y
unfolding midpoint
division_plain k tol poses joints roomPoses roomJoints F f e {r = r} s x y m l =
    let w = left k tol poses joints roomPoses roomJoints e in
    let all-sized : (i : Item) → Memᴰ i r → Sized i.joints = steps_all (divides (prepared k) tol) (midpoint (prepared k)) (λ i. Sized i.joints) (λ a b. sized_mid a.joints b.joints) s (given_sized k poses joints f w) in
    segment_plain k F w.chain w.pivots x y (all-sized x m) (all-sized y l)
