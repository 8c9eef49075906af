-- A divided path that is divided again passes the checks again, and nothing is inserted: `divided_again`. What is
-- inserted keeps within the sizes, as it lies between its ends, and the axis that it reaches has finite numbers.
use Prim.Native.Nat.{ℕ, zero, suc, ◌+◌, ◌*◌, ◌/◌, ◌%◌, ◌≤◌}
use native.Mathlib.Omega.{arith}
use mathlib.Core.Path.{◌≡◌, refl, sym, ap, ◌∙◌, subst}
use mathlib.Core.Bool.{Bool, true, ◌&&◌}
use mathlib.Core.Logic.{◌⊎◌, inl, inr}
use mathlib.Core.List.Memᴰ
use mathlib.Core.List.{List, [], ◌∷◌, ◌++◌, map, Memᴰ}
use borrow.Author.Tests.{eq-eqb, le-leb}
use lib.Dec.{eqb, leb}
use lib.Ieee.{Float, nan}
use lib.Ieee.Scale.{finite}
use lib.ListN.{length, drop, length-map}
use Rattle.float.specs.Helpers.{nought}
use Rattle.lists.specs.Padding.{padded}
use Rattle.lists.specs.Rows.{rows, paired, flat}
use Rattle.lists.specs.Search.{all}
use Rattle.lists.proofs.Padding.{padded_full}
use Rattle.lists.proofs.Rows.{rows_flat, length_flat}
use Rattle.lists.proofs.Search.{all_true}
use Rattle.geometry.specs.Direction as Direction
use Rattle.chain.specs.declared.Joints.{Joints}
use Rattle.chain.specs.declared.Kinematics.{Kinematics}
use Rattle.chain.specs.declared.Prepared.{Prepared}
use Rattle.chain.specs.declared.ToolPose.{ToolPose}
use Rattle.chain.specs.Check.{longest, joints_finite, joints_within, chain_within}
use Rattle.chain.specs.Prepared.{prepared}
use Rattle.chain.proofs.ReadyLaws.{both, all_within_finite, over_longest}
use Rattle.lists.specs.Each.{Each}
use Rattle.path.specs.Solving.{pose_from, poses_in, joint_numbers, whole_records}
use Rattle.halving.specs.Halving.{Done}
use Rattle.halving.proofs.Steps.{steps_all}
use Rattle.halving.proofs.Ends.{again}
use Rattle.middle.specs.declared.Item.{Item}
use Rattle.middle.specs.declared.Tolerances.{Tolerances}
use Rattle.middle.specs.Testing.{midpoint, divides, pose_of, lerp_joints}
use Rattle.turn.specs.Items.{joints_from, item, items_in, space_in, pose_numbers}
use Rattle.turn.specs.Turning.{most}
use Rattle.turn.proofs.Stored.{pose_codec, joints_codec}
use Rattle.divide.specs.Checking.{FitUpTo, all_finite, tip_within, joint_sets_in, division_sizes, four_whole}
use Rattle.divide.specs.Subdividing.{Halved, given, subdivide_path}
use Rattle.divide.proofs.Lengths.{all_passed}
use Rattle.divide.proofs.Accepted.{Accepted, accepted_parts, accepted_of, accepted_result}
use Rattle.divide.proofs.PriceLent.{items_left}
use Rattle.divide.proofs.PriceSound.{Sized, sized_mid, sizes_finite}
use Rattle.divide.proofs.PricePath.{given_sets_sized}

-- ---- each of a list
each_of : {A : Type 0} (P : A → Type 0) (l : List A) → ((x : A) → Memᴰ x l → P x) → Each P l
each_of P [] f = tt
each_of P (x ∷ l) f = (f x (Memᴰ.head refl), each_of P l (λ y m. f y (Memᴰ.tail m)))

of_each : {A : Type 0} (P : A → Type 0) (l : List A) → Each P l → (x : A) → Memᴰ x l → P x
of_each P [] e x m = absurd (Memᴰ.not-nil m)
of_each P (y ∷ l) e x m = go (Memᴰ.cases_cons m) (of_each P l e.1 x)
  where
    go : (x ≡ y) ⊎ Memᴰ x l → (Memᴰ x l → P x) → P x
    go (inl w) on = subst P (sym w) e.0
    go (inr w) on = on w

-- ---- an item that passes the checks but for its tip
pub record Fine (i : Item) : Type 0 where
  pub axis : Direction.all_finite i.pose.axis ≡ true
  pub sized : Sized i.joints

fine_mid : (p : Prepared) → ((j : Joints) → Direction.all_finite (pose_of p j).axis ≡ true) → (x y : Item) → Fine x → Fine y → Fine (midpoint p x y)
unfolding midpoint
fine_mid p reached x y a b = record { axis = reached (lerp_joints x.joints y.joints); sized = sized_mid x.joints y.joints a.sized b.sized }

-- ---- the given items
drop_all : (test : Float → Bool) (w : ℕ) (l : List Float) → all test l ≡ true → all test (drop w l) ≡ true
unfolding all
drop_all test zero l h = h
drop_all test (suc w) [] h = refl
drop_all test (suc w) (x ∷ l) h = drop_all test w l (both (test x) (all test l) h).1

drop_long : (w n : ℕ) (l : List Float) → w + n ≤ length l → n ≤ length (drop w l)
drop_long zero n l h = omega arith
drop_long (suc w) n [] h = absurd (omega arith)
drop_long (suc w) n (x ∷ l) h = drop_long w n l (omega arith)

axis_read : (l : List Float) → all finite l ≡ true → 6 ≤ length l → Direction.all_finite (pose_from l).axis ≡ true
unfolding Direction.all_finite
axis_read l h long =
    let t = (all_true finite l nan).0 h in
    rw (t 3 (omega arith), t 4 (omega arith), t 5 (omega arith))

abbrev AxisFinite : ToolPose → Type 0
AxisFinite p = Direction.all_finite p.axis ≡ true

axes_read : (n : ℕ) (l : List Float) → all finite l ≡ true → n * 6 ≤ length l → Each AxisFinite (rows 6 pose_from n l)
unfolding rows
axes_read zero l h long = tt
axes_read (suc n) l h long = (axis_read l h (omega arith), axes_read n (drop 6 l) (drop_all finite 6 l h) (drop_long 6 (n * 6) l (omega arith)))

paired_each : (poses : List ToolPose) (joints : List Joints) → Each AxisFinite poses → Each Sized joints → Each Fine (paired item poses joints)
unfolding paired
paired_each [] joints a s = tt
paired_each (p ∷ poses) [] a s = tt
paired_each (p ∷ poses) (j ∷ joints) a s = (record { axis = a.0; sized = s.0 }, paired_each poses joints a.1 s.1)

-- ---- the numbers of a result
abbrev poses_only : List Item → List ToolPose
poses_only r = map (λ (t : Item). t.pose) r

abbrev joints_only : List Item → List Joints
joints_only r = map (λ (t : Item). t.joints) r

pose_finite : (p : ToolPose) (l : List Float) → tip_within p ≡ true → AxisFinite p → all finite l ≡ true → all finite (pose_numbers p ++ l) ≡ true
unfolding all Direction.all_finite tip_within
pose_finite p l t a h =
    let u = all_within_finite longest over_longest p.tip t in
    let v = both (finite p.tip.x && finite p.tip.y) (finite p.tip.z) u in
    let w = both (finite p.tip.x) (finite p.tip.y) v.0 in
    let x = both (finite p.axis.x && finite p.axis.y) (finite p.axis.z) a in
    let y = both (finite p.axis.x) (finite p.axis.y) x.0 in
    rw (w.0, w.1, v.1, y.0, y.1, x.1) h

poses_finite : (r : List Item) → Each Fine r → all tip_within (poses_only r) ≡ true → all finite (flat pose_numbers (poses_only r)) ≡ true
unfolding all flat
poses_finite [] f t = refl
poses_finite (i ∷ r) f t =
    let p = both (tip_within i.pose) (all tip_within (poses_only r)) t in
    pose_finite i.pose (flat pose_numbers (poses_only r)) p.0 f.0.axis (poses_finite r f.1 p.1)

set_finite : (j : Joints) (l : List Float) → joints_finite j ≡ true → all finite l ≡ true → all finite (joint_numbers j ++ l) ≡ true
unfolding all joints_finite Direction.all_finite
set_finite j l s h =
    let v = finite j.xyz.x && finite j.xyz.y && finite j.xyz.z in
    let p = both (v && finite j.a0) (finite j.a1) s in
    let q = both v (finite j.a0) p.0 in
    let t = both (finite j.xyz.x && finite j.xyz.y) (finite j.xyz.z) q.0 in
    let u = both (finite j.xyz.x) (finite j.xyz.y) t.0 in
    rw (u.0, u.1, t.1, q.1, p.1) h

sets_finite : (r : List Item) → Each Fine r → all finite (flat joint_numbers (joints_only r)) ≡ true
unfolding all flat
sets_finite [] f = refl
sets_finite (i ∷ r) f = set_finite i.joints (flat joint_numbers (joints_only r)) (sizes_finite i.joints f.0.sized.sizes) (sets_finite r f.1)

sets_within : (r : List Item) → Each Fine r → all joints_within (joints_only r) ≡ true
unfolding all
sets_within [] f = refl
sets_within (i ∷ r) f = rw (f.0.sized.sizes, sets_within r f.1)

-- ---- lengths
sixth : (n : ℕ) → n * 6 / 6 ≡ n
sixth n = omega arith

fifth : (n : ℕ) → n * 5 / 5 ≡ n
fifth n = omega arith

whole_of : (n : ℕ) → whole_records (n * 6) (n * 5) ≡ true
unfolding whole_records
whole_of n =
    let a : n * 6 % 6 ≡ 0 = omega arith in
    let b : n * 5 % 5 ≡ 0 = omega arith in
    rw (eq-eqb _ _ a, eq-eqb _ _ b)

pub long_poses : (r : List Item) → length (flat pose_numbers (poses_only r)) ≡ length r * 6
long_poses r = length_flat pose_codec (poses_only r) ∙ ap (λ (n : ℕ). n * 6) (length-map r (λ (t : Item). t.pose))

pub long_joints : (r : List Item) → length (flat joint_numbers (joints_only r)) ≡ length r * 5
long_joints r = length_flat joints_codec (joints_only r) ∙ ap (λ (n : ℕ). n * 5) (length-map r (λ (t : Item). t.joints))

pub poses_back : (r : List Item) → poses_in (flat pose_numbers (poses_only r)) ≡ poses_only r
unfolding poses_in
poses_back r =
    ap (λ (n : ℕ). rows 6 pose_from (n / 6) (flat pose_numbers (poses_only r))) (long_poses r)
    ∙ ap (λ (n : ℕ). rows 6 pose_from n (flat pose_numbers (poses_only r))) (sixth (length r) ∙ sym (length-map r (λ (t : Item). t.pose)))
    ∙ rows_flat pose_codec (poses_only r)

joints_back : (r : List Item) → joint_sets_in (flat joint_numbers (joints_only r)) ≡ joints_only r
unfolding joint_sets_in
joints_back r =
    ap (λ (n : ℕ). rows 5 joints_from (n / 5) (flat joint_numbers (joints_only r))) (long_joints r)
    ∙ ap (λ (n : ℕ). rows 5 joints_from n (flat joint_numbers (joints_only r))) (fifth (length r) ∙ sym (length-map r (λ (t : Item). t.joints)))
    ∙ rows_flat joints_codec (joints_only r)

given_back : (r : List Item) → given (flat pose_numbers (poses_only r)) (flat joint_numbers (joints_only r)) ≡ r
given_back r =
    ap (λ (n : ℕ). items_in n (flat pose_numbers (poses_only r)) (flat joint_numbers (joints_only r))) (ap (λ (n : ℕ). n / 6) (long_poses r) ∙ sixth (length r))
    ∙ ap (λ (l : List Float). items_in (length r) l (flat joint_numbers (joints_only r))) (sym (padded_full 0 nought (flat pose_numbers (poses_only r)) (omega arith)))
    ∙ ap (λ (l : List Float). items_in (length r) (padded 0 nought (flat pose_numbers (poses_only r))) l) (sym (padded_full 0 nought (flat joint_numbers (joints_only r)) (omega arith)))
    ∙ items_left r 0 0

-- ---- the law
module _ (k : Kinematics) (tol : Tolerances) (poses joints : List Float) (roomPoses roomJoints n : ℕ) (r : List Item)
    (reached : (j : Joints) → Direction.all_finite (pose_of (prepared k) j).axis ≡ true) (fit : FitUpTo (length joints) joints)
    (accepted : subdivide_path k tol poses joints roomPoses roomJoints ≡ Halved (Done n r)) where
  parts : Accepted k tol poses joints roomPoses roomJoints n r
  parts = accepted_parts k tol poses joints roomPoses roomJoints n r accepted

  given_fine : Each Fine (given poses joints)
  unfolding all_finite items_in
  given_fine =
      let f = both (all finite poses) (all finite joints) parts.checks.finite_is in
      paired_each (rows 6 pose_from (length poses / 6) poses) (rows 5 joints_from (length poses / 6) joints) (axes_read (length poses / 6) poses f.0 (omega arith))
      (given_sets_sized k tol poses joints roomPoses roomJoints (all_passed k tol poses joints roomPoses roomJoints parts.checks) fit)

  result_fine : Each Fine r
  result_fine =
      let p = prepared k in
      let d = accepted_result k tol poses joints roomPoses roomJoints n r parts in
      each_of Fine r (steps_all (divides p tol) (midpoint p) Fine (fine_mid p reached) d.steps (of_each Fine (given poses joints) given_fine))

  module _ (few : length r ≤ 100000) (tips : all tip_within (poses_only r) ≡ true) (spacePoses spaceJoints : ℕ) (whole : whole_records spacePoses spaceJoints ≡ true)
      (space : length r ≤ space_in spacePoses spaceJoints) where
    abbrev ps : List Float
    ps = flat pose_numbers (poses_only r)

    abbrev js : List Float
    js = flat joint_numbers (joints_only r)

    whole_again : four_whole (length ps) (length js) spacePoses spaceJoints ≡ true
    unfolding four_whole
    whole_again = rw (long_poses r, long_joints r, whole_of (length r), whole)

    finite_again : all_finite ps js ≡ true
    unfolding all_finite
    finite_again = rw (poses_finite r result_fine tips, sets_finite r result_fine)

    sizes_again : division_sizes k ps js ≡ true
    unfolding division_sizes
    sizes_again =
        let s = both (chain_within k && all tip_within (poses_in poses) && all joints_within (joint_sets_in joints)) (leb (length poses / 6) 100000) parts.checks.sizes_is in
        let t = both (chain_within k && all tip_within (poses_in poses)) (all joints_within (joint_sets_in joints)) s.0 in
        let u = both (chain_within k) (all tip_within (poses_in poses)) t.0 in
        rw (u.0, poses_back r, tips, joints_back r, sets_within r result_fine, long_poses r, sixth (length r), le-leb (length r) 100000 few)

    as_many_again : eqb (length ps / 6) (length js / 5) ≡ true
    as_many_again = rw (long_poses r, long_joints r, sixth (length r), fifth (length r)) (eq-eqb (length r) (length r) refl)

    pub divided_again : subdivide_path k tol ps js spacePoses spaceJoints ≡ Halved (Done 0 r)
    divided_again =
        let p = prepared k in
        let c = parts.checks in
        accepted_of k tol ps js spacePoses spaceJoints 0 r
        (record {
          checks = record {
            whole_is = whole_again;
            chord_is = c.chord_is;
            axis_is = c.axis_is;
            as_many_is = as_many_again;
            chain_is = c.chain_is;
            finite_is = finite_again;
            sizes_is = sizes_again;
          };
          room = rw (given_back r) space;
          done = rw (given_back r) (again (divides p tol) (midpoint p) (space_in roomPoses roomJoints) most 0 n (given poses joints) r parts.done (space_in spacePoses spaceJoints) most 0);
        })
