-- `trig::reduction::part` meets its contract. Assumes nothing.
use Rattle.std.proofs.Common.{refl}
use Rattle.trig.specs.Reduction.{part}
use Rattle.trig.proofs.reduction.part.Goals as goal

pub returns : goal.returns
unfolding part
returns c = refl
