-- `trig::bearing::back` meets its contract. Assumes nothing.
use Rattle.trig.proofs.Choices.{by_larger}
use Rattle.trig.specs.Arctangent.{quarter_float, back_float}
use Rattle.trig.proofs.bearing.back.Goals as goal

pub returns : goal.returns
unfolding back_float
returns c = rw (c.quarter.ensures, c.max.ensures) (by_larger quarter_float _ _)
