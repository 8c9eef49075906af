use Rattle.geometry.specs.Turn.{turn_of}
use Rattle.chain.specs.Forward.{turns_of}
use Rattle.chain.proofs.forward_map.turns_of.Goals as goal

pub returns : goal.returns
unfolding turns_of
returns c = c.turns_by.ensures turn_of (λ x r h. h)
