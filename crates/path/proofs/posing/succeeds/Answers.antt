use mathlib.Core.Path.{◌≡◌}
use mathlib.Core.Bool.{Bool, false}
use Rattle.std.specs.Prelude.{Err, Ok, Result, MatchResult}
use Rattle.refusal.specs.declared.Refusal.{Refusal}
use Rattle.chain.specs.declared.Joints.{Joints}
use Rattle.path.specs.Posing.{turned_within, succeeds}
use Rattle.path.proofs.posing.succeeds.Goals as goal

by_turns : (exact : Result Joints Refusal) (b : Bool) → MatchResult exact (λ j. b ≡ turned_within j) (λ r. b ≡ false) → b ≡ succeeds exact
by_turns (Ok j) b h = h
by_turns (Err r) b h = h

pub returns : goal.returns
returns c = by_turns c.args.exact c.is_ok_and.result c.is_ok_and.ensures
