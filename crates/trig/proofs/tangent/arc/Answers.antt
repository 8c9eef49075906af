-- `trig::tangent::arc` meets its contract. Assumes nothing.
use Rattle.std.proofs.Common.{refl}
use Rattle.trig.specs.Arctangent.{arc}
use Rattle.trig.proofs.tangent.arc.Goals as goal

pub returns : goal.returns
unfolding arc
returns c = refl
