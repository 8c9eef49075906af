use Rattle.chain.specs.Prepared.{unit_axis}
use Rattle.path.specs.Solving.{parallel}
use Rattle.path.proofs.solving.parallel.Goals as goal

pub returns-in_default : goal.returns-in_default
unfolding parallel
returns-in_default c = rw (rw c.in_default.is at c.second_rotary.ensures)

pub returns : goal.returns
unfolding parallel unit_axis
returns c =
    let e = rw c.in-Some.is at c.second_rotary.ensures in
    rw (c.parallel_axes.ensures, c.unit_or-inner.ensures, c.unit_or-outer.ensures, e.1, e.0)
