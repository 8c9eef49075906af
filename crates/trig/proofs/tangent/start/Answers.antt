-- `trig::tangent::start` meets its contract. Assumes nothing.
use Rattle.std.proofs.Common.{ap, ◌∙◌}
use lib.Ieee.{Float, binary64, add}
use Rattle.trig.specs.Reduction.{quarter_pi}
use Rattle.trig.proofs.Choices.{pick, drop}
use Rattle.trig.specs.Arctangent.{start_float}
use Rattle.trig.proofs.tangent.start.Goals as goal

pub returns-then-t : goal.returns-then-t
unfolding start_float
returns-then-t c = ap (λ (y : Float). add binary64 quarter_pi y) c.arc.ensures ∙ pick _ _ _ c.if-t.true

pub returns-else-t : goal.returns-else-t
unfolding start_float
returns-else-t c = c.arc-else-t.ensures ∙ drop _ _ _ c.if-t.false
