-- What the checks of a path leave to its loop: the chain has passed its own check, no number of it is past 100,000, the
-- start is within 36,000 degrees, and the output has space for every pose.
use Prim.Native.Nat.{ℕ, ◌*◌, ◌/◌, ◌≤◌}
use native.Mathlib.Omega.{arith}
use mathlib.Core.Path.{◌≡◌, refl, sym, subst}
use mathlib.Core.Bool.{Bool, true, false, not, cond, ◌&&◌, and-eq-true_iff}
use borrow.Author.Tests.{leb-true}
use lib.Dec.{T, eqb, leb, lit≤}
use lib.Ieee.{Float, binary64, fits}
use Rattle.std.specs.Prelude.{None, Ok, Option, Some}
use Rattle.refusal.specs.declared.Cause.{Cause}
use Rattle.float.specs.Helpers.{nought}
use Rattle.float.proofs.UpTo.{up_to_more, nought_up_to}
use Rattle.geometry.proofs.UnitSize.{UnitSized}
use Rattle.chain.specs.declared.Joints.{Joints}
use Rattle.chain.specs.declared.RotaryJoint.{RotaryJoint}
use Rattle.chain.specs.declared.Kinematics.{Kinematics}
use Rattle.chain.specs.declared.Spin.{Spin}
use Rattle.chain.specs.Check.{demand, chain_check, within, all_within, rotary_within, chain_within, joints_within, longest, farthest, most_turned}
use Rattle.chain.specs.Forward.{of_second}
use Rattle.chain.specs.Prepared.{spin_of, second_spin, prepared}
use Rattle.chain.proofs.NeverFallback.{within_up_to}
use Rattle.chain.proofs.Passing.{then_passed, demand_passed, SixPassed, six_passed}
use Rattle.chain.specs.Doubles.{ChainFits, PreparedFits}
use Rattle.chain.proofs.Fitting.{prepared_fits}
use Rattle.chain.proofs.UnitAxes.{FitAxes, SecondUnit, UnitChain, chain_units}
use Rattle.inverse.proofs.AngleBounds.{PairUpTo}
use Rattle.path.specs.Closest.{bounded_spin, bounded}
use Rattle.path.specs.Posing.{set_up}
use Rattle.path.specs.Solving.{whole_records, cone_good, parallel, path_chain, start_finite, start_within, start_angles, path_sizes, solve_check}
use Rattle.path.specs.declared.Setup.{Setup}
use Rattle.path.proofs.Positions.{vec_within}

fifths : (a b : ℕ) → a ≤ b / 5 → a * 5 ≤ b
fifths a b h = omega arith

-- the check of a chain is part of that of a path
pub chain_of_path : (k : Kinematics) → path_chain k ≡ Ok tt → chain_check k ≡ Ok tt
unfolding path_chain
chain_of_path k e = (then_passed (chain_check k) (demand (not (parallel k)) Cause.ParallelRotaries 0) e).0

-- the angles of a start are doubles
abbrev pub StartFits : Option Joints → Type 0
StartFits None = Unit {0}
StartFits (Some j) = T (fits binary64 j.a0) × T (fits binary64 j.a1)

start_up_to : (start : Option Joints) → StartFits start → start_within start ≡ true → PairUpTo 36000 (start_angles start)
unfolding joints_within
start_up_to None f h = (up_to_more 0 36000 nought (lit≤ tt) nought_up_to, up_to_more 0 36000 nought (lit≤ tt) nought_up_to)
start_up_to (Some j) f h =
    let a = (and-eq-true_iff (all_within j.xyz farthest && within j.a0 most_turned) (within j.a1 most_turned)).0 h in
    let b = (and-eq-true_iff (all_within j.xyz farthest) (within j.a0 most_turned)).0 a.0 in
    (within_up_to j.a0 f.0 b.1, within_up_to j.a1 f.1 a.1)

-- ---- a unit axis and a pivot within 100,000
spin_bounded : (s : Spin) → UnitSized s.axis → all_within s.pivot longest ≡ true → bounded_spin s ≡ true
spin_bounded s A w = rw (vec_within s.axis A.small, w)

pivot_within : (j : RotaryJoint) → rotary_within j ≡ true → all_within j.pivot longest ≡ true
unfolding rotary_within
pivot_within j w = ((and-eq-true_iff (all_within j.pivot longest) (within j.rest most_turned)).0 w).0

-- where there is no second rotary its pivot is not asked
second_bounded : (k : Kinematics) → SecondUnit (second_spin k) → cond (eqb k.count 2) (rotary_within k.second) true ≡ true → of_second (second_spin k) true bounded_spin ≡ true
unfolding second_spin
second_bounded k A w = go (eqb k.count 2) A w
  where
    go : (two : Bool) → SecondUnit (cond two (Some (spin_of k.second)) None) → cond two (rotary_within k.second) true ≡ true → of_second (cond two (Some (spin_of k.second)) None) true bounded_spin ≡ true
    go true A w = spin_bounded (spin_of k.second) A (unfold spin_of in pivot_within k.second w)
    go false A w = refl

units_bounded : (k : Kinematics) → UnitChain (prepared k) → chain_within k ≡ true → bounded (prepared k) ≡ true
unfolding bounded prepared spin_of chain_within
units_bounded k C w =
    let p = (and-eq-true_iff (rotary_within k.first) (cond (eqb k.count 2) (rotary_within k.second) true)).0 w in
    rw (spin_bounded (spin_of k.first) C.first (pivot_within k.first p.0), second_bounded k C.second p.1, vec_within _ C.spindle.small)

-- ---- what the list of checks says
module _ (k : Kinematics) (start : Option Joints) (cone : Float) (numbers room : ℕ) (passed : solve_check k start cone numbers room ≡ Ok tt) where
  parts : SixPassed (demand (whole_records numbers room) Cause.LengthsDiffer 0) (demand (cone_good cone) Cause.Cone 0) (path_chain k) (demand (start_finite start) Cause.NotFinite 0) (demand (path_sizes k start (numbers / 6)) Cause.TooLarge 0) (demand (leb (numbers / 6) (room / 5)) Cause.NoSpace 0)
  unfolding solve_check
  parts =
      six_passed (demand (whole_records numbers room) Cause.LengthsDiffer 0) (demand (cone_good cone) Cause.Cone 0) (path_chain k) (demand (start_finite start) Cause.NotFinite 0) (demand (path_sizes k start (numbers / 6)) Cause.TooLarge 0) (demand (leb (numbers / 6) (room / 5)) Cause.NoSpace 0) passed

  pub room_passed : numbers / 6 * 5 ≤ room
  room_passed = fifths (numbers / 6) room (leb-true (numbers / 6) (room / 5) (demand_passed (leb (numbers / 6) (room / 5)) Cause.NoSpace 0 parts.sixth))

  pub chain_passed : chain_check k ≡ Ok tt
  chain_passed = chain_of_path k parts.third

  sizes : (chain_within k ≡ true) × (start_within start ≡ true)
  unfolding path_sizes
  sizes =
      let r = (and-eq-true_iff (chain_within k && start_within start) (leb (numbers / 6) 100000)).0 (demand_passed (path_sizes k start (numbers / 6)) Cause.TooLarge 0 parts.fifth) in
      (and-eq-true_iff (chain_within k) (start_within start)).0 r.0

  pub start_turned : StartFits start → PairUpTo 36000 (start_angles start)
  start_turned f = start_up_to start f sizes.1

  pub chain_bounded : FitAxes k → bounded (prepared k) ≡ true
  chain_bounded F = units_bounded k (chain_units k F chain_passed) sizes.0

-- ---- of the set-up, what holds of the chain
pub set_up_bounded : (k : Kinematics) (cone : Float) (s : Setup) → s ≡ set_up k cone → bounded (prepared k) ≡ true → bounded s.chain ≡ true
unfolding set_up
set_up_bounded k cone s e b = subst (λ (t : Setup). bounded t.chain ≡ true) (sym e) b

pub set_up_fits : (k : Kinematics) (cone : Float) (s : Setup) → s ≡ set_up k cone → ChainFits k → PreparedFits s.chain
unfolding set_up
set_up_fits k cone s e F = subst (λ (t : Setup). PreparedFits t.chain) (sym e) (prepared_fits k F)
