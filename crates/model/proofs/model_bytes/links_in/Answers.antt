use Rattle.model.specs.Model.{links_of}
use Rattle.model.proofs.model_bytes.links_in.Goals as goal

pub returns : goal.returns
unfolding links_of
returns c = c.links_before.ensures
