-- `trig::bearing::angle` meets its contract. Assumes nothing.
use Rattle.std.proofs.Common.{ap, ◌∙◌}
use lib.Ieee.{neg}
use Rattle.trig.proofs.Choices.{pick, drop}
use Rattle.trig.specs.Arctangent.{angle_float}
use Rattle.trig.proofs.bearing.angle.Goals as goal

pub returns-then-y : goal.returns-then-y
unfolding angle_float
returns-then-y c = c.level.ensures ∙ pick _ _ _ c.if-y.true

pub returns-then-y-2 : goal.returns-then-y-2
unfolding angle_float
returns-then-y-2 c = ap neg c.upper.ensures ∙ pick _ _ _ c.if-y-2.true ∙ drop _ _ _ c.if-y.false

pub returns-else-y-2 : goal.returns-else-y-2
unfolding angle_float
returns-else-y-2 c = c.upper-else-y-2.ensures ∙ drop _ _ _ c.if-y-2.false ∙ drop _ _ _ c.if-y.false
