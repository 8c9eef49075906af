use Rattle.std.proofs.Common.{rules}
use Rattle.chain.specs.Forward.{head_vector, table_vector, reach_axis}
use Rattle.chain.proofs.forward_map.reach_axis.Goals as goal

pub returns : goal.returns
unfolding reach_axis
returns c = rw (c.carried_back.ensures table_vector (λ s t v r h. search rules), c.carried-machine.ensures head_vector (λ s t v r h. search rules))
