use Rattle.std.proofs.Common.{◌∙◌}
use Rattle.float.proofs.Choices.{round_is}
use Rattle.float.proofs.round.Goals as goal

pub returns : goal.returns
returns c = c.round.ensures ∙ round_is c.args.x
