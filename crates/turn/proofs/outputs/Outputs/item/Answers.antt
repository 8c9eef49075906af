use Rattle.turn.proofs.outputs.Outputs.item.Goals as goal

pub returns : goal.returns
returns c = c.item_at.ensures
