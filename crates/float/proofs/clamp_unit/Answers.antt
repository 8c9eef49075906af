use Rattle.std.proofs.Common.{◌∙◌}
use Rattle.float.proofs.Choices.{clamp_is}
use Rattle.float.proofs.clamp_unit.Goals as goal

pub returns : goal.returns
returns c = c.clamp.ensures.value ∙ clamp_is c.args.x
