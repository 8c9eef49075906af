-- The checks of a division that pass, each by itself, and back; and what they leave to the machine: whole records, as
-- many of either kind.
use Prim.Native.Nat.{ℕ, ◌*◌, ◌/◌, ◌%◌}
use native.Mathlib.Omega.{arith}
use mathlib.Core.Path.{◌≡◌}
use mathlib.Core.Bool.{Bool, true}
use borrow.Author.Tests.{eqb-true}
use lib.Dec.{eqb}
use lib.ListN.{length}
use lib.Ieee.{Float}
use mathlib.Core.List.{List}
use Rattle.std.specs.Prelude.{Ok}
use Rattle.refusal.specs.declared.Cause.{Cause}
use Rattle.chain.specs.declared.Kinematics.{Kinematics}
use Rattle.chain.specs.Check.{demand}
use Rattle.chain.proofs.Passing.{then_passed, demand_passed}
use Rattle.chain.proofs.ReadyLaws.{both}
use Rattle.path.specs.Solving.{whole_records, path_chain}
use Rattle.middle.specs.declared.Tolerances.{Tolerances}
use Rattle.divide.specs.Checking.{tolerance_good, all_finite, division_sizes, four_whole, checks_in_order, division_check}

whole_six : (n : ℕ) → eqb (n % 6) 0 ≡ true → n ≡ n / 6 * 6
whole_six n e = let h = eqb-true (n % 6) 0 e in omega arith

whole_five : (n : ℕ) → eqb (n % 5) 0 ≡ true → n ≡ n / 5 * 5
whole_five n e = let h = eqb-true (n % 5) 0 e in omega arith

pub records_whole : (a b : ℕ) → whole_records a b ≡ true → (a ≡ a / 6 * 6) × (b ≡ b / 5 * 5)
unfolding whole_records
records_whole a b e = let h = both (eqb (a % 6) 0) (eqb (b % 5) 0) e in (whole_six a h.0, whole_five b h.1)

joints_as_many : (p j : ℕ) → j ≡ j / 5 * 5 → p / 6 ≡ j / 5 → j ≡ p / 6 * 5
joints_as_many p j a b = omega arith

-- ---- each check
pub record Passes (k : Kinematics) (whole chord axis asMany finite sizes : Bool) : Type 0 where
  pub whole_is : whole ≡ true
  pub chord_is : chord ≡ true
  pub axis_is : axis ≡ true
  pub as_many_is : asMany ≡ true
  pub chain_is : path_chain k ≡ Ok tt
  pub finite_is : finite ≡ true
  pub sizes_is : sizes ≡ true

module _ (k : Kinematics) (whole chord axis asMany finite sizes : Bool) where
  pub passes : checks_in_order k whole chord axis asMany finite sizes ≡ Ok tt → Passes k whole chord axis asMany finite sizes
  unfolding checks_in_order
  passes e =
      let a = then_passed (demand whole Cause.LengthsDiffer 0) _ e in
      let b = then_passed (demand chord Cause.Tolerance 0) _ a.1 in
      let c = then_passed (demand axis Cause.Tolerance 0) _ b.1 in
      let d = then_passed (demand asMany Cause.LengthsDiffer 0) _ c.1 in
      let f = then_passed (path_chain k) _ d.1 in
      let g = then_passed (demand finite Cause.NotFinite 0) _ f.1 in
      record {
        whole_is = demand_passed whole Cause.LengthsDiffer 0 a.0;
        chord_is = demand_passed chord Cause.Tolerance 0 b.0;
        axis_is = demand_passed axis Cause.Tolerance 0 c.0;
        as_many_is = demand_passed asMany Cause.LengthsDiffer 0 d.0;
        chain_is = f.0;
        finite_is = demand_passed finite Cause.NotFinite 0 g.0;
        sizes_is = demand_passed sizes Cause.TooLarge 0 g.1;
      }

  pub passed_by : Passes k whole chord axis asMany finite sizes → checks_in_order k whole chord axis asMany finite sizes ≡ Ok tt
  unfolding checks_in_order
  passed_by p = rw (p.whole_is, p.chord_is, p.axis_is, p.as_many_is, p.chain_is, p.finite_is, p.sizes_is)

-- ---- of what is lent
module _ (k : Kinematics) (tol : Tolerances) (poses joints : List Float) (roomPoses roomJoints : ℕ) where
  abbrev pub AllPass : Type 0
  AllPass =
      Passes k (four_whole (length poses) (length joints) roomPoses roomJoints) (tolerance_good tol.chord) (tolerance_good tol.axis)
      (eqb (length poses / 6) (length joints / 5)) (all_finite poses joints) (division_sizes k poses joints)

  pub all_pass : division_check k tol poses joints roomPoses roomJoints ≡ Ok tt → AllPass
  unfolding division_check
  all_pass e =
      passes k (four_whole (length poses) (length joints) roomPoses roomJoints) (tolerance_good tol.chord) (tolerance_good tol.axis)
      (eqb (length poses / 6) (length joints / 5)) (all_finite poses joints) (division_sizes k poses joints) e

  pub all_passed : AllPass → division_check k tol poses joints roomPoses roomJoints ≡ Ok tt
  unfolding division_check
  all_passed p =
      passed_by k (four_whole (length poses) (length joints) roomPoses roomJoints) (tolerance_good tol.chord) (tolerance_good tol.axis)
      (eqb (length poses / 6) (length joints / 5)) (all_finite poses joints) (division_sizes k poses joints) p

  pub check_lengths : division_check k tol poses joints roomPoses roomJoints ≡ Ok tt → (length poses ≡ length poses / 6 * 6) × (length joints ≡ length poses / 6 * 5)
  unfolding four_whole
  check_lengths e =
      let p = all_pass e in
      let w = both (whole_records (length poses) (length joints)) (whole_records roomPoses roomJoints) p.whole_is in
      let r = records_whole (length poses) (length joints) w.0 in
      (r.0, joints_as_many (length poses) (length joints) r.1 (eqb-true (length poses / 6) (length joints / 5) p.as_many_is))
