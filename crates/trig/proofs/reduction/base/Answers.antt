-- `trig::reduction::base` meets its contract. Assumes nothing.
use Rattle.std.proofs.Common.{refl}
use Rattle.trig.specs.Reduction.{base}
use Rattle.trig.proofs.NearestTurn.{base_fits}
use Rattle.trig.proofs.reduction.base.Goals as goal

pub overflow_add-result : goal.overflow_add-result
overflow_add-result c = record { fits = base_fits c.args.k c.requires }

pub returns : goal.returns
unfolding base
returns c = refl
