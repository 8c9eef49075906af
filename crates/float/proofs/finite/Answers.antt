use Rattle.std.proofs.Common.{◌∙◌}
use Rattle.float.proofs.Choices.{finite_is}
use Rattle.float.proofs.finite.Goals as goal

pub returns : goal.returns
returns c = c.is_finite.ensures.value ∙ finite_is c.args.x
