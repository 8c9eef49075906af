use Rattle.std.proofs.Common.{rules}
use Rattle.chain.specs.Forward.{table_vector, position}
use Rattle.chain.proofs.forward_map.position.Goals as goal

pub returns : goal.returns
unfolding position
returns c = rw (c.carried.ensures table_vector (λ s t v r h. search rules), c.sub.ensures)
