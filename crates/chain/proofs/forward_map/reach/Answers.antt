use Rattle.std.proofs.Common.{rules}
use Rattle.chain.specs.Forward.{head_point, table_point, reach}
use Rattle.chain.proofs.forward_map.reach.Goals as goal

pub returns : goal.returns
unfolding reach
returns c =
    rw (
      c.reach_axis-axis.ensures,
      c.carried_back-tip.ensures table_point (λ s t v r h. search rules),
      c.add-machine.ensures,
      c.carried.ensures head_point (λ s t v r h. search rules),
      c.mul-gauge.ensures,
    )
