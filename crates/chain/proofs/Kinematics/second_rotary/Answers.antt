use mathlib.Core.Path.{◌≡◌, refl}
use mathlib.Core.Bool.{Bool, true, false}
use lib.Dec.{eqb}
use Rattle.std.specs.Prelude.{MatchOption}
use Rattle.std.specs.Bool.{then_some}
use Rattle.chain.specs.declared.RotaryJoint.{RotaryJoint}
use Rattle.chain.proofs.Kinematics.second_rotary.Goals as goal

-- named, so that a wrong count is refused by the two counts that differ, and not by a search that ends
told : (two : Bool) (second : RotaryJoint) → MatchOption (then_some two second) (two ≡ false) (λ j. (two ≡ true) × (j ≡ second))
told true second = (refl, refl)
told false second = refl

pub returns : goal.returns
returns c = rw c.then_some.ensures (told (eqb c.args.self.now.count 2) c.args.self.now.second)
