use Rattle.std.proofs.Common.{rules}
use Rattle.chain.specs.Forward.{head_point, head_vector}
use Rattle.model.specs.Frame.{head_map_point, head_map_direction, head_frame}
use Rattle.model.proofs.link_frame.head_frame.Goals as goal

pub returns : goal.returns
unfolding head_frame head_map_point head_map_direction
returns c =
    rw (
      c.carried_frame.ensures head_vector (λ s t v r h. search rules),
      c.add-origin.ensures,
      c.carried.ensures head_point (λ s t v r h. search rules),
      c.identity.ensures,
    )
