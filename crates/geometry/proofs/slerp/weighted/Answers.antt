use Rattle.geometry.specs.Slerp.{weighted}
use Rattle.geometry.proofs.slerp.weighted.Goals as goal

pub returns-in_default : goal.returns-in_default
unfolding weighted
returns-in_default c = rw (rw c.sine.ensures.name at c.in_default.is)

pub returns-in_default-sine : goal.returns-in_default-sine
unfolding weighted
returns-in_default-sine c = rw (rw c.sine.ensures.name at c.in-Some.is, rw c.sine-2.ensures.name at c.in_default-sine.is)

pub returns : goal.returns
unfolding weighted
returns c = rw (c.unit_or.ensures, c.add-between.ensures, c.mul-2.ensures, c.mul.ensures, rw c.sine.ensures.name at c.in-Some.is, rw c.sine-2.ensures.name at c.in-Some-sine.is)
