use Rattle.std.proofs.Common.{rules}
use Rattle.geometry.specs.Rigid.{inverse, compose}
use Rattle.model.specs.Frame.{table_frame, frame_of, link_in_part}
use Rattle.model.proofs.MachineModel.link_in_part.Goals as goal

pub returns : goal.returns
unfolding link_in_part
returns c =
    c.placed.ensures (λ p t kind. compose (inverse (table_frame p t)) (frame_of p t c.args.j.xyz kind)) (λ p t kind r h. search rules)
