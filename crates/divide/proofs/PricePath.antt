-- What demand 3 stands on: there is one result, and what is solved and passes division's checks is within its limits
-- and sizes.
use Prim.Native.Nat.{ℕ, zero, suc, ◌+◌, ◌/◌, ◌≤◌, ◌<◌}
use mathlib.Core.Path.{◌≡◌, refl, sym, ap, ◌∙◌, subst}
use mathlib.Core.Logic.{◌⊎◌, inl, inr}
use mathlib.Core.Bool.{true, ◌&&◌}
use mathlib.Core.List.Memᴰ
use mathlib.Core.List.{List, [], ◌∷◌, Memᴰ}
use borrow.Author.Tests.{eqb-true}
use lib.Dec.{T, leb}
use lib.Ieee.{Float, binary64, fits, nan}
use lib.ListN.{length, get_or, drop, get_or-eq_default}
use lib.Seq.{get_or-drop}
use Rattle.std.specs.Prelude.{Ok, Option}
use Rattle.lists.specs.Rows.{rows, paired}
use Rattle.lists.specs.Each.{Each}
use Rattle.lists.specs.Search.{all}
use Rattle.chain.specs.declared.Joints.{Joints}
use Rattle.chain.specs.declared.Kinematics.{Kinematics}
use Rattle.chain.specs.declared.Prepared.{Prepared}
use Rattle.chain.specs.declared.ToolPose.{ToolPose}
use Rattle.chain.specs.Check.{joints_within, chain_within}
use Rattle.chain.proofs.ReadyLaws.{both}
use Rattle.path.specs.Promise.{Served, OnPath}
use Rattle.path.specs.Solving.{Along, pose_from, poses_in, solve_path}
use Rattle.path.proofs.Promises.{path_served}
use Rattle.halving.proofs.Pairs.{steps_inserts, inserts_one}
use Rattle.middle.specs.declared.Item.{Item}
use Rattle.middle.specs.declared.Tolerances.{Tolerances}
use Rattle.middle.specs.Testing.{midpoint, divides}
use Rattle.turn.specs.Items.{joints_from, item, items_in}
use Rattle.divide.specs.Checking.{FitUpTo, tip_within, joint_sets_in, division_sizes, division_check}
use Rattle.divide.specs.Subdividing.{given}
use Rattle.divide.specs.Price.{Result}
use Rattle.divide.proofs.Idle.{less_or_not}
use Rattle.divide.proofs.Lengths.{all_pass}
use Rattle.divide.proofs.PriceSound.{Limited, served_limited, Sized}

-- ---- there is one result: what is said of the halving in `Result` leaves no other list and no other count
pub divided_one : {k : Kinematics} {p : Prepared} {tol : Tolerances} {g r t : List Item} {n m : ℕ} → Result k p tol g n r → Result k p tol g m t → (n ≡ m) × (r ≡ t)
divided_one {p = p} {tol = tol} a b =
    let (i, u) = steps_inserts (divides p tol) (midpoint p) a.halved a.ended in
    let (j, v) = steps_inserts (divides p tol) (midpoint p) b.halved b.ended in
    let o = inserts_one (divides p tol) (midpoint p) u.0 v.0 in
    (sym u.1 ∙ ap length o.0 ∙ v.1, o.1)

-- ---- poses and joint sets side by side
module _ (item : ToolPose → Joints → Item) (holds : (q : ToolPose) (j : Joints) → (item q j).joints ≡ j) where
  pub paired_given : (P : Joints → Type 0) (poses : List ToolPose) (l : List Joints) → Each P l → (i : Item) → Memᴰ i (paired item poses l) → P i.joints
  unfolding paired
  paired_given P [] l e i m = absurd (Memᴰ.not-nil m)
  paired_given P (q ∷ poses) [] e i m = absurd (Memᴰ.not-nil m)
  paired_given P (q ∷ poses) (j ∷ l) e i m = go (Memᴰ.cases_cons m) (paired_given P poses l e.1 i)
    where
      go : (i ≡ item q j) ⊎ Memᴰ i (paired item poses l) → (Memᴰ i (paired item poses l) → P i.joints) → P i.joints
      go (inl w) on = subst P (sym (ap (λ (x : Item). x.joints) w ∙ holds q j)) e.0
      go (inr w) on = on w

-- ---- solved joints
each_limited : (k : Kinematics) (l : List Joints) → Each (Served k) l → Each Sized l → Each (Limited k) l
each_limited k [] s f = tt
each_limited k (j ∷ l) s f = (served_limited k j s.0 f.0.fits_a0 f.0.fits_a1, each_limited k l s.1 f.1)

module _ (k : Kinematics) (poses : List Float) (start : Option Joints) (cone : Float) (room : ℕ) (l : List Joints) (solved : solve_path k poses start cone room ≡ Along l) (sizes : Each Sized l) where
  pub path_limited : Each (Limited k) l
  path_limited = each_limited k l (subst (OnPath (Served k)) solved (path_served k poses start cone room)) sizes

-- ---- joint sets read from lent numbers, five for each, that pass the check of sizes
sized_rows : (n : ℕ) (l : List Float) → ((i : ℕ) → T (fits binary64 (get_or l i nan))) → all joints_within (rows 5 joints_from n l) ≡ true → Each Sized (rows 5 joints_from n l)
unfolding rows all
sized_rows zero l f h = tt
sized_rows (suc n) l f h =
    let p = both (joints_within (joints_from l)) (all joints_within (rows 5 joints_from n (drop 5 l))) h in (
      record { sizes = p.0; fits_x = f 0; fits_y = f 1; fits_z = f 2; fits_a0 = f 3; fits_a1 = f 4 },
      sized_rows n (drop 5 l) (λ i. subst (λ (x : Float). T (fits binary64 x)) (sym (get_or-drop 5 l i nan)) (f (5 + i))) p.1,
    )

all_fit : (l : List Float) → FitUpTo (length l) l → (i : ℕ) → T (fits binary64 (get_or l i nan))
unfolding fits
all_fit l f i = go (less_or_not i (length l))
  where
    go : (i < length l) ⊎ (length l ≤ i) → T (fits binary64 (get_or l i nan))
    go (inl p) = f.fit i p
    go (inr p) = subst (λ (x : Float). T (fits binary64 x)) (sym (get_or-eq_default l nan p)) tt

-- those of a division whose checks pass
pub given_sets_sized : (k : Kinematics) (tol : Tolerances) (lent solved : List Float) (roomPoses roomJoints : ℕ)
    → division_check k tol lent solved roomPoses roomJoints ≡ Ok tt → FitUpTo (length solved) solved → Each Sized (rows 5 joints_from (length lent / 6) solved)
unfolding division_sizes joint_sets_in
given_sets_sized k tol lent solved roomPoses roomJoints e f =
    let p = all_pass k tol lent solved roomPoses roomJoints e in
    let s = both (chain_within k && all tip_within (poses_in lent) && all joints_within (joint_sets_in solved)) (leb (length lent / 6) 100000) p.sizes_is in
    let t = both (chain_within k && all tip_within (poses_in lent)) (all joints_within (joint_sets_in solved)) s.0 in
    let n : length lent / 6 ≡ length solved / 5 = eqb-true (length lent / 6) (length solved / 5) p.as_many_is in
    sized_rows (length lent / 6) solved (all_fit solved f) (rw n t.1)

pub given_sized : (k : Kinematics) (tol : Tolerances) (lent solved : List Float) (roomPoses roomJoints : ℕ)
    → division_check k tol lent solved roomPoses roomJoints ≡ Ok tt → FitUpTo (length solved) solved → (i : Item) → Memᴰ i (given lent solved) → Sized i.joints
unfolding items_in
given_sized k tol lent solved roomPoses roomJoints e f i m =
    paired_given item (λ q j. refl) Sized (rows 6 pose_from (length lent / 6) lent) (rows 5 joints_from (length lent / 6) solved)
    (given_sets_sized k tol lent solved roomPoses roomJoints e f) i m
