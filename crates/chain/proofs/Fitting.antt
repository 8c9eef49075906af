-- That the numbers of a chain are doubles, which their type says: `Is` is what is known of a value that was handed over.
-- What is prepared of such a chain is of doubles too.
use mathlib.Core.Path.{◌≡◌, subst}
use mathlib.Core.List.{List}
use mir.Val.{Val}
use denote.Laws.{Is}
use borrow.Author.Rules.{rules}
use mathlib.Core.Bool.{Bool, true, false, cond}
use lib.Dec.{eqb}
use Rattle.std.specs.Prelude.{None, Option, Some}
use Rattle.geometry.specs.declared.Vec3.{Vec3}
use Rattle.geometry.specs.contracts.Vec3 as VectorRow
use Rattle.chain.specs.declared.RotaryLimits.{RotaryLimits}
use Rattle.chain.specs.declared.Spin.{Spin}
use Rattle.chain.specs.declared.RotaryJoint.{RotaryJoint}
use Rattle.chain.specs.declared.Kinematics.{Kinematics}
use Rattle.std.specs.contracts.option.Option as OptionRow
use Rattle.chain.specs.contracts.RotaryLimits as LimitsRow
use Rattle.chain.specs.contracts.RotaryJoint as RotaryRow
use Rattle.chain.specs.contracts.Kinematics as ChainRow
use Rattle.geometry.specs.Doubles.{FitVec}
use Rattle.geometry.proofs.FitVectors.{unit_or_fits}
use Rattle.chain.specs.Doubles.{TravelFits, RotaryFits, ChainFits, SpinFits, PreparedFits}
use Rattle.chain.specs.Prepared.{unit_axis, spin_of, second_spin, prepared}
use Rattle.chain.proofs.UnitAxes.{FitAxes}

vector_fits : (v : Vec3) (vs : List Val) → Is VectorRow.the_row v vs → FitVec v
vector_fits v vs g = (search (rules, g), search (rules, g), search (rules, g))

travel_fits : (t : Option RotaryLimits) (vs : List Val) → Is (OptionRow.the_row LimitsRow.the_row) t vs → TravelFits t
travel_fits None vs g = tt
travel_fits (Some l) vs g = search (rules, g)

rotary_fits : (j : RotaryJoint) (vs : List Val) → Is RotaryRow.the_row j vs → RotaryFits j
rotary_fits j vs g = record {
  axis = vector_fits j.axis _ g.1.1.1.1.1.0;
  pivot = vector_fits j.pivot _ g.1.1.1.1.1.1.0;
  limits = travel_fits j.limits _ g.1.1.1.1.0;
  rest = let r = g.1.1.1.1.1.1.1.0 in search (rules, r);
}

pub chain_fits : (k : Kinematics) (vs : List Val) → Is ChainRow.the_row k vs → ChainFits k
chain_fits k vs g = record {
  first = rotary_fits k.first _ g.1.1.1.0;
  second = rotary_fits k.second _ g.1.1.1.1.0;
  spindle = vector_fits k.spindle_axis _ g.1.1.1.1.1.0;
}

pub axes_fit : (k : Kinematics) → ChainFits k → FitAxes k
axes_fit k F = (F.first.axis, F.second.axis, F.spindle)

-- ---- prepared
spin_fits : (j : RotaryJoint) → RotaryFits j → SpinFits (spin_of j)
unfolding spin_of unit_axis
spin_fits j F = (unit_or_fits j.axis j.axis F.axis, F.pivot)

abbrev SecondFits : Option Spin → Type 0
SecondFits None = Unit {0}
SecondFits (Some s) = SpinFits s

second_fits : (k : Kinematics) → RotaryFits k.second → (s : Spin) → second_spin k ≡ Some s → SpinFits s
unfolding second_spin
second_fits k F s e = subst SecondFits e (go (eqb k.count 2))
  where
    go : (two : Bool) → SecondFits (cond two (Some (spin_of k.second)) None)
    go true = spin_fits k.second F
    go false = tt

pub prepared_fits : (k : Kinematics) → ChainFits k → PreparedFits (prepared k)
unfolding prepared unit_axis
prepared_fits k F = (spin_fits k.first F.first, second_fits k F.second, unit_or_fits k.spindle_axis k.spindle_axis F.spindle)
