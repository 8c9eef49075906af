use mathlib.Core.Path.{◌∙◌}
use Rattle.model.specs.ModelCheck.{same_name}
use Rattle.model.proofs.SameBytes.{same_is}
use Rattle.model.proofs.model_check.same_name.Goals as goal

pub returns : goal.returns
unfolding same_name
returns c = c.eq.ensures ∙ rw (c.name_in.ensures, c.name_in-2.ensures) (same_is _ _)
