use Rattle.turn.proofs.given.GivenPath.axis.Goals as goal

pub returns : goal.returns
returns c = c.axis_at.ensures
