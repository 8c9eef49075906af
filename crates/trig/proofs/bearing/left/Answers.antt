-- `trig::bearing::left` meets its contract. Assumes nothing.
use Rattle.std.proofs.Common.{ap, ◌∙◌}
use Rattle.trig.proofs.Choices.{pick, drop}
use Rattle.trig.specs.Arctangent.{grid_angle, lean_float, back_float, left_float}
use Rattle.trig.proofs.bearing.left.Goals as goal

pub returns-then-b-y : goal.returns-then-b-y
unfolding left_float
returns-then-b-y c = c.lean.ensures ∙ ap lean_float (c.grid_angle.ensures ∙ ap grid_angle c.ratio-t.ensures) ∙ pick _ _ _ c.if-b-y.true

pub returns-else-b-y : goal.returns-else-b-y
unfolding left_float
returns-else-b-y c = c.back.ensures ∙ ap back_float (c.grid_angle-else-b-y.ensures ∙ ap grid_angle c.ratio-t-else-b-y.ensures) ∙ drop _ _ _ c.if-b-y.false
