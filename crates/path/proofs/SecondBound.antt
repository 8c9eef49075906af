-- The bound of the second rotary, of what `second_rotary` and `map` answer.
use mathlib.Core.Path.{◌≡◌, ap, ◌∙◌}
use mathlib.Core.Bool.{true, false, cond}
use lib.Dec.{eqb}
use Rattle.std.specs.Prelude.{None, Option, Some, MatchOption}
use Rattle.std.specs.Option.{IsSomeAnd}
use Rattle.chain.specs.declared.Kinematics.{Kinematics}
use Rattle.chain.specs.declared.RotaryJoint.{RotaryJoint}
use Rattle.path.specs.Posing.{bound_of}
use Rattle.path.specs.declared.Bound.{Bound}

pub second_bound : (k : Kinematics) (o : Option RotaryJoint) (r : Option Bound) (P : RotaryJoint → Bound → Type 0)
    → MatchOption o (eqb k.count 2 ≡ false) (λ j. (eqb k.count 2 ≡ true) × (j ≡ k.second))
    → MatchOption o (r ≡ None) (λ j. IsSomeAnd r (P j))
    → ((j : RotaryJoint) (b : Bound) → P j b → b ≡ bound_of j)
    → r ≡ cond (eqb k.count 2) (Some (bound_of k.second)) None
second_bound k None r P e m f = m ∙ rw e
second_bound k (Some j) None P e m f = absurd m
second_bound k (Some j) (Some b) P e m f = ap Some (f j b m ∙ ap bound_of e.1) ∙ rw e.0
