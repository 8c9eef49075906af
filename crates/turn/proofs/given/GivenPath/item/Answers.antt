use Rattle.turn.proofs.given.GivenPath.item.Goals as goal

pub returns : goal.returns
returns c = c.item_at.ensures
