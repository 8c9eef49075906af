-- That the numbers of a setup that was handed over by value are doubles, which their type says, as in Fitting of crate
-- chain.
use mathlib.Core.Path.{◌≡◌, subst}
use mathlib.Core.List.{List}
use mir.Val.{Val}
use denote.Laws.{Is}
use borrow.Author.Rules.{rules}
use Rattle.std.specs.Prelude.{None, Option, Some}
use Rattle.std.specs.contracts.option.Option as OptionRow
use Rattle.geometry.specs.declared.Vec3.{Vec3}
use Rattle.geometry.specs.Doubles.{FitVec}
use Rattle.geometry.specs.contracts.Vec3 as VectorRow
use Rattle.chain.specs.declared.Spin.{Spin}
use Rattle.chain.specs.declared.Prepared.{Prepared}
use Rattle.chain.specs.Doubles.{SpinFits, PreparedFits}
use Rattle.chain.specs.contracts.Spin as SpinRow
use Rattle.chain.specs.contracts.Prepared as PreparedRow
use Rattle.path.specs.declared.Setup.{Setup}
use Rattle.path.specs.contracts.Setup as SetupRow

vector_fits : (v : Vec3) (vs : List Val) → Is VectorRow.the_row v vs → FitVec v
vector_fits v vs g = (search (rules, g), search (rules, g), search (rules, g))

spin_fits : (s : Spin) (vs : List Val) → Is SpinRow.the_row s vs → SpinFits s
spin_fits s vs g = (vector_fits s.axis _ g.1.1.1.0, vector_fits s.pivot _ g.1.1.1.1.0)

abbrev SecondFits : Option Spin → Type 0
SecondFits None = Unit {0}
SecondFits (Some s) = SpinFits s

some_fits : (o : Option Spin) (vs : List Val) → Is (OptionRow.the_row SpinRow.the_row) o vs → SecondFits o
some_fits None vs g = tt
some_fits (Some s) vs g =
    ((search (rules, g), search (rules, g), search (rules, g)), (search (rules, g), search (rules, g), search (rules, g)))

second_fits : (o : Option Spin) (vs : List Val) → Is (OptionRow.the_row SpinRow.the_row) o vs → (s : Spin) → o ≡ Some s → SpinFits s
second_fits o vs g s e = subst SecondFits e (some_fits o vs g)

prepared_fits : (p : Prepared) (vs : List Val) → Is PreparedRow.the_row p vs → PreparedFits p
prepared_fits p vs g = (spin_fits p.first _ g.1.1.0, second_fits p.second _ g.1.1.1.0, vector_fits p.spindle _ g.1.1.1.1.0)

pub setup_fits : (s : Setup) (vs : List Val) → Is SetupRow.the_row s vs → PreparedFits s.chain
setup_fits s vs g = prepared_fits s.chain _ g.1.1.0
