-- `trig::bearing::rise` meets its contract. Assumes nothing.
use Rattle.trig.proofs.Choices.{by_larger}
use Rattle.trig.specs.Arctangent.{quarter_float, rise_float}
use Rattle.trig.proofs.bearing.rise.Goals as goal

pub returns : goal.returns
unfolding rise_float
returns c = rw (c.quarter.ensures, c.max.ensures) (by_larger quarter_float _ _)
