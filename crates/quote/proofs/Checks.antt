-- What the checks of a quotation leave to the machine, and what it leaves of a scratch.
use Prim.Native.Nat.{ℕ, ◌*◌, ◌/◌, ◌≤◌}
use native.Mathlib.Omega.{arith}
use mathlib.Core.Path.{◌≡◌, refl, ap}
use mathlib.Core.Bool.{Bool, true, false, ◌&&◌}
use mathlib.Core.List.{List}
use borrow.Author.Tests.{leb-true, le-leb}
use lib.Dec.{leb}
use lib.ListN.{length, replicate}
use lib.Ieee.{Float}
use Rattle.std.specs.Prelude.{Ok}
use Rattle.float.specs.Helpers.{nought}
use Rattle.lists.specs.Search.{all}
use Rattle.refusal.specs.declared.Cause.{Cause}
use Rattle.chain.specs.declared.Kinematics.{Kinematics}
use Rattle.chain.specs.Check.{demand, chain_within, joints_within}
use Rattle.chain.proofs.Passing.{then_passed}
use Rattle.chain.proofs.ReadyLaws.{both}
use Rattle.path.specs.Solving.{poses_in, whole_records}
use Rattle.middle.specs.declared.Tolerances.{Tolerances}
use Rattle.divide.specs.Checking.{division_check, division_sizes, four_whole, tip_within, joint_sets_in}
use Rattle.divide.proofs.Lengths.{all_pass, all_passed, check_lengths}
use Rattle.quote.specs.Quotation.{scratch_whole, scratch_enough, quote_check, cleared}

module _ (k : Kinematics) (tol : Tolerances) (poses joints : List Float) where
  few_poses : division_sizes k poses joints ≡ true → length poses / 6 ≤ 100000
  unfolding division_sizes
  few_poses e =
      leb-true (length poses / 6) 100000
      (both (chain_within k && all tip_within (poses_in poses) && all joints_within (joint_sets_in joints)) (leb (length poses / 6) 100000) e).1

  -- division's checks pass with whole records of one length where they pass with those of another
  pub passed_there : (a b a₀ b₀ : ℕ) → whole_records a b ≡ true → division_check k tol poses joints a₀ b₀ ≡ Ok tt → division_check k tol poses joints a b ≡ Ok tt
  unfolding four_whole
  passed_there a b a₀ b₀ w e =
      let p = all_pass k tol poses joints a₀ b₀ e in
      let q = both (whole_records (length poses) (length joints)) (whole_records a₀ b₀) p.whole_is in
      all_passed k tol poses joints a b (record {
        whole_is = rw (q.0, w);
        chord_is = p.chord_is;
        axis_is = p.axis_is;
        as_many_is = p.as_many_is;
        chain_is = p.chain_is;
        finite_is = p.finite_is;
        sizes_is = p.sizes_is;
      })

  module _ (roomJoints roomTips : ℕ) where
    pub division_passed : quote_check k tol poses joints roomJoints roomTips ≡ Ok tt → division_check k tol poses joints 0 0 ≡ Ok tt
    unfolding quote_check
    division_passed e = (then_passed (demand (scratch_whole roomJoints roomTips) Cause.LengthsDiffer 0) (division_check k tol poses joints 0 0) e).1

    pub both_passed : scratch_whole roomJoints roomTips ≡ true → division_check k tol poses joints 0 0 ≡ Ok tt → quote_check k tol poses joints roomJoints roomTips ≡ Ok tt
    unfolding quote_check
    both_passed e f = rw (e, f)

    pub quote_passed : quote_check k tol poses joints roomJoints roomTips ≡ Ok tt
        → (length poses / 6 ≤ 100000) × ((length poses ≡ length poses / 6 * 6) × (length joints ≡ length poses / 6 * 5))
    quote_passed e =
        let d = division_passed e in
        (few_poses (all_pass k tol poses joints 0 0 d).sizes_is, check_lengths k tol poses joints 0 0 d)

-- scratch for 10,000 joint sets and as many tips, by the numbers that it holds
pub enough : (roomJoints roomTips : ℕ) → 50000 ≤ roomJoints → 30000 ≤ roomTips → scratch_enough roomJoints roomTips ≡ true
unfolding scratch_enough
enough roomJoints roomTips a b = rw (le-leb 10000 (roomJoints / 5) (omega (arith, a)), le-leb 10000 (roomTips / 3) (omega (arith, b)))

pub short : (roomJoints roomTips : ℕ) → (50000 ≤ roomJoints → 30000 ≤ roomTips → ⊥) → scratch_enough roomJoints roomTips ≡ false
unfolding scratch_enough
short roomJoints roomTips k = go (scratch_enough roomJoints roomTips) refl
  where
    go : (b : Bool) → scratch_enough roomJoints roomTips ≡ b → b ≡ false
    go true e =
        let p = both (leb 10000 (roomJoints / 5)) (leb 10000 (roomTips / 3)) e in
        let j = leb-true 10000 (roomJoints / 5) p.0 in
        let t = leb-true 10000 (roomTips / 3) p.1 in
        absurd (k (omega (arith, j)) (omega (arith, t)))
    go false e = refl

pub cleared_so : (a b : List Float) → length b ≡ length a → replicate (length b) nought ≡ cleared a
unfolding cleared
cleared_so a b e = ap (λ (k : ℕ). replicate k nought) e
