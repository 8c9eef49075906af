-- `trig::bearing::right` meets its contract. Assumes nothing.
use Rattle.std.proofs.Common.{ap, ◌∙◌}
use Rattle.trig.proofs.Choices.{pick, drop}
use Rattle.trig.specs.Arctangent.{grid_angle, flat_float, rise_float, right_float}
use Rattle.trig.proofs.bearing.right.Goals as goal

pub returns-then-y-x : goal.returns-then-y-x
unfolding right_float
returns-then-y-x c = c.flat.ensures ∙ ap flat_float c.ratio-t.ensures ∙ pick _ _ _ c.if-y-x.true

pub returns-else-y-x : goal.returns-else-y-x
unfolding right_float
returns-else-y-x c = c.rise.ensures ∙ ap rise_float (c.grid_angle.ensures ∙ ap grid_angle c.ratio-t-else-y-x.ensures) ∙ drop _ _ _ c.if-y-x.false
