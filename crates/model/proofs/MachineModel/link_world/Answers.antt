use Rattle.std.proofs.Common.{rules}
use Rattle.model.specs.Frame.{frame_of, link_world}
use Rattle.model.proofs.MachineModel.link_world.Goals as goal

pub returns : goal.returns
unfolding link_world
returns c = c.placed.ensures (λ p t kind. frame_of p t c.args.j.xyz kind) (λ p t kind r h. search rules)
