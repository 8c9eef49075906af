use mathlib.Core.Path.{refl}
use Rattle.model.proofs.model_bytes.links_before.Goals as goal

pub returns : goal.returns
returns c = refl
