-- `trig::tangent::grid_angle` meets its contract. Assumes nothing.
use Rattle.trig.proofs.Bisection.{grid_kept, grid_halved}
use Rattle.trig.proofs.tangent.grid_angle.Goals as goal

pub returns-then-passes : goal.returns-then-passes
returns-then-passes c = grid_kept c.args.t c.guess-near.result.i c.radians.result c.passes.result c.guess-near.ensures c.radians.ensures c.passes.ensures c.if-passes.true

pub returns : goal.returns
returns c = grid_halved c.args.t c.guess-near.result.i c.radians.result c.passes.result c.guess-near.ensures c.radians.ensures c.passes.ensures c.bisect-i.result c.if-passes.false c.bisect-i.ensures.name
