-- `trig::tangent::GridAngle::steep` meets its contract. Assumes nothing.
use Rattle.trig.proofs.Bisection.{steep_is}
use Rattle.trig.proofs.tangent.GridAngle.steep.Goals as goal

pub returns : goal.returns
returns c = steep_is c.args.t c.args.self.i _ _ _ c.radians-r.ensures c.sine_kernel.ensures.name c.cosine_kernel.ensures.name
