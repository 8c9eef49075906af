-- `trig::bearing::upper` meets its contract. Assumes nothing.
use Rattle.std.proofs.Common.{◌∙◌}
use Rattle.trig.proofs.Choices.{pick, drop}
use Rattle.trig.specs.Arctangent.{upper_float}
use Rattle.trig.proofs.bearing.upper.Goals as goal

pub returns-then-x : goal.returns-then-x
unfolding upper_float
returns-then-x c = pick _ _ _ c.if-x.true

pub returns-then-x-2 : goal.returns-then-x-2
unfolding upper_float
returns-then-x-2 c = c.left.ensures ∙ pick _ _ _ c.if-x-2.true ∙ drop _ _ _ c.if-x.false

pub returns-else-x-2 : goal.returns-else-x-2
unfolding upper_float
returns-else-x-2 c = c.right.ensures ∙ drop _ _ _ c.if-x-2.false ∙ drop _ _ _ c.if-x.false
