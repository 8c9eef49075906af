-- `trig::bearing::lean` meets its contract. Assumes nothing.
use Rattle.trig.proofs.Choices.{by_smaller}
use Rattle.trig.specs.Arctangent.{quarter_float, lean_float}
use Rattle.trig.proofs.bearing.lean.Goals as goal

pub returns : goal.returns
unfolding lean_float
returns c = rw (c.quarter.ensures, c.min.ensures) (by_smaller quarter_float _ _)
