use mathlib.Core.Path.{◌∙◌}
use Rattle.extremes.proofs.Building.{stored}
use Rattle.extremes.proofs.summing.put_extremes.Goals as goal

pub returns : goal.returns
returns c = c.put_joints-2.ensures ∙ rw c.put_joints.ensures (stored _ _ _)
