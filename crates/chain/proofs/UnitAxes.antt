-- The axes of a chain that passes its checks have a direction, so that those of the prepared chain are the unit vectors
-- of the given ones (`chain_directions`) and as long as unit vectors are (`chain_units`).
use mathlib.Core.Path.{◌≡◌, refl}
use mathlib.Core.Bool.{Bool, true, false, cond, false≢true}
use Prim.Native.Nat.{ℕ}
use lib.Dec.{eqb}
use Rattle.std.specs.Prelude.{None, Ok, Option, Some}
use Rattle.refusal.specs.declared.Cause.{Cause}
use Rattle.geometry.specs.declared.Vec3.{Vec3}
use Rattle.geometry.specs.Direction.{all_finite, unit_direction, unit_or, along}
use Rattle.geometry.specs.Doubles.{FitVec}
use Rattle.geometry.proofs.FitVectors.{unit_fits}
use Rattle.geometry.proofs.UnitSize.{UnitSized, unit_size}
use Rattle.chain.specs.declared.Kinematics.{Kinematics}
use Rattle.chain.specs.declared.Prepared.{Prepared}
use Rattle.chain.specs.declared.RotaryJoint.{RotaryJoint}
use Rattle.chain.specs.declared.Spin.{Spin}
use lib.Ieee.Scale.{finite}
use Rattle.chain.specs.Check.{demand, then, travel_good, served, has_direction, known_letter, other_letter, rotary_check, one_or_two, second_check, chain_check}
use Rattle.chain.specs.Prepared.{unit_axis, spin_of, second_spin, prepared}
use Rattle.chain.proofs.Passing.{then_passed, demand_passed, six_passed}

-- the axes are of doubles, as those of every chain that code has
abbrev pub FitAxes : Kinematics → Type 0
FitAxes k = FitVec k.first.axis × FitVec k.second.axis × FitVec k.spindle_axis

-- ---- what the check says of directions
rotary_direction : (j : RotaryJoint) (earlier : Option ℕ) (i : ℕ) → rotary_check j earlier i ≡ Ok tt → has_direction j.axis ≡ true
unfolding rotary_check
rotary_direction j earlier i h =
    demand_passed (has_direction j.axis) Cause.RotaryAxisZero i
    (six_passed (demand (known_letter j.letter) Cause.RotaryLetter i) (demand (other_letter j.letter earlier) Cause.LetterTwice i) (demand (all_finite j.axis) Cause.ChainNotFinite i) (demand (has_direction j.axis) Cause.RotaryAxisZero i)
    (demand (all_finite j.pivot) Cause.ChainNotFinite i)
    (then (demand (travel_good j.limits) Cause.LimitsRefused i) (demand (finite j.rest) Cause.ChainNotFinite i)) h).fourth

record ChainPassed (k : Kinematics) : Type 0 where
  first : has_direction k.first.axis ≡ true
  second : second_check k ≡ Ok tt
  spindle : has_direction k.spindle_axis ≡ true

chain_passed : (k : Kinematics) → chain_check k ≡ Ok tt → ChainPassed k
unfolding chain_check
chain_passed k h =
    let count = demand (one_or_two k.count) Cause.RotaryCount 0 in
    let number = demand (all_finite k.spindle_axis) Cause.ChainNotFinite 0 in
    let direction = demand (has_direction k.spindle_axis) Cause.SpindleZero 0 in
    let a = (then_passed count (then (rotary_check k.first None 0) (then (second_check k) (then number direction))) h).1 in
    let b = then_passed (rotary_check k.first None 0) (then (second_check k) (then number direction)) a in
    let c = then_passed (second_check k) (then number direction) b.1 in
    record {
      first = rotary_direction k.first None 0 b.0;
      second = c.0;
      spindle = demand_passed (has_direction k.spindle_axis) Cause.SpindleZero 0 (then_passed number direction c.1).1;
    }

-- ---- one axis
directed : (v : Vec3) → has_direction v ≡ true → unit_direction v ≡ Some (unit_axis v)
unfolding has_direction unit_axis unit_or
directed v h = go (unit_direction v) h
  where
    go : (d : Option Vec3) → served d ≡ true → d ≡ Some (along d v (λ u. u))
    go (Some u) h = refl
    go None h = absurd (false≢true h)

-- the second rotary's axis, where there is one
abbrev pub SecondUnit : Option Spin → Type 0
SecondUnit None = Unit {0}
SecondUnit (Some s) = UnitSized s.axis

abbrev pub SecondDirected : Vec3 → Option Spin → Type 0
SecondDirected given None = Unit {0}
SecondDirected given (Some s) = unit_direction given ≡ Some s.axis

-- the second rotary, by what is to hold of it
module _ (k : Kinematics) (P : Option Spin → Type 0) (absent : P None) (there : has_direction k.second.axis ≡ true → P (Some (spin_of k.second))) where
  second_by : second_check k ≡ Ok tt → P (second_spin k)
  unfolding second_check second_spin
  second_by h = go (eqb k.count 2) h
    where
      go : (b : Bool) → cond b (rotary_check k.second (Some k.first.letter) 1) (Ok tt) ≡ Ok tt → P (cond b (Some (spin_of k.second)) None)
      go true h = there (rotary_direction k.second (Some k.first.letter) 1 h)
      go false h = absent

-- ---- the prepared axes are the unit vectors of the given ones: `unit_axis` does not fall back on a given axis
pub record ChainDirections (k : Kinematics) : Type 0 where
  pub first : unit_direction k.first.axis ≡ Some (prepared k).first.axis
  pub second : SecondDirected k.second.axis (prepared k).second
  pub spindle : unit_direction k.spindle_axis ≡ Some (prepared k).spindle

pub chain_directions : (k : Kinematics) → chain_check k ≡ Ok tt → ChainDirections k
unfolding prepared spin_of
chain_directions k h =
    let c = chain_passed k h in
    record { first = directed k.first.axis c.first; second = second_by k (SecondDirected k.second.axis) tt (directed k.second.axis) c.second; spindle = directed k.spindle_axis c.spindle }

-- ---- and as long as unit vectors are
pub record UnitChain (p : Prepared) : Type 0 where
  pub first : UnitSized p.first.axis
  pub second : SecondUnit p.second
  pub spindle : UnitSized p.spindle
  pub spindle_fits : FitVec p.spindle

axis_sized : (v : Vec3) → FitVec v → has_direction v ≡ true → UnitSized (unit_axis v)
axis_sized v F h = unit_size v (unit_axis v) F (directed v h)

pub chain_units : (k : Kinematics) → FitAxes k → chain_check k ≡ Ok tt → UnitChain (prepared k)
unfolding prepared spin_of
chain_units k F h =
    let c = chain_passed k h in
    record {
      first = axis_sized k.first.axis F.0 c.first;
      second = second_by k SecondUnit tt (axis_sized k.second.axis F.1) c.second;
      spindle = axis_sized k.spindle_axis F.2 c.spindle;
      spindle_fits = unit_fits k.spindle_axis (unit_axis k.spindle_axis) (directed k.spindle_axis c.spindle);
    }
