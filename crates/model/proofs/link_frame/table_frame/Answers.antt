use Rattle.std.proofs.Common.{rules}
use Rattle.chain.specs.Forward.{table_point, table_vector}
use Rattle.model.specs.Frame.{table_map_point, table_map_direction, table_frame}
use Rattle.model.proofs.link_frame.table_frame.Goals as goal

pub returns : goal.returns
unfolding table_frame table_map_point table_map_direction
returns c =
    rw (
      c.carried_frame.ensures table_vector (λ s t v r h. search rules),
      c.carried-origin.ensures table_point (λ s t v r h. search rules),
      c.identity.ensures,
    )
