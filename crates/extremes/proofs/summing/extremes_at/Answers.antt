use mathlib.Core.Path.{refl, ◌∙◌}
use Rattle.extremes.proofs.Building.{span_widened}
use Rattle.extremes.proofs.summing.extremes_at.Goals as goal

pub returns : goal.returns
returns c = c.widened_by.ensures ∙ span_widened c.args.joints.now c.requires.0 c.requires.1 c.joints_in-first.ensures _ refl
