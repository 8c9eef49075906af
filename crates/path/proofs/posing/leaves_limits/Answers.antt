use mathlib.Core.Path.{◌≡◌}
use mathlib.Core.Bool.{Bool, false}
use Rattle.std.specs.Prelude.{Err, Ok, Result, MatchResult}
use Rattle.refusal.specs.declared.Refusal.{Refusal}
use Rattle.chain.specs.declared.Joints.{Joints}
use Rattle.path.specs.Posing.{is_limit, leaves_limits}
use Rattle.path.proofs.posing.leaves_limits.Goals as goal

by_cause : (answer : Result Joints Refusal) (b : Bool) → MatchResult answer (λ j. b ≡ false) (λ r. b ≡ is_limit r.cause) → b ≡ leaves_limits answer
by_cause (Ok j) b h = h
by_cause (Err r) b h = h

pub returns : goal.returns
returns c = by_cause c.args.answer c.is_err_and.result c.is_err_and.ensures
