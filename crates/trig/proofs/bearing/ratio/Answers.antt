-- `trig::bearing::ratio` meets its contract. Assumes nothing.
use Rattle.trig.proofs.Choices.{pick, drop}
use Rattle.trig.specs.Arctangent.{ratio_float}
use Rattle.trig.proofs.bearing.ratio.Goals as goal

pub returns-then-t : goal.returns-then-t
unfolding ratio_float
returns-then-t c = pick _ _ _ c.if-t.true

pub returns-else-t : goal.returns-else-t
unfolding ratio_float
returns-else-t c = drop _ _ _ c.if-t.false
