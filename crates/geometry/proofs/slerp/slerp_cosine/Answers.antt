use Rattle.geometry.specs.Slerp.{slerp_cosine}
use Rattle.geometry.proofs.slerp.slerp_cosine.Goals as goal

pub returns-in_default : goal.returns-in_default
unfolding slerp_cosine
returns-in_default c = rw (rw c.arccosine.ensures.name at c.in_default.is)

pub returns-in_default-sine : goal.returns-in_default-sine
unfolding slerp_cosine
returns-in_default-sine c = rw (rw c.arccosine.ensures.name at c.in-Some.is, rw c.sine.ensures.name at c.in_default-sine.is)

pub returns-then-cosine : goal.returns-then-cosine
unfolding slerp_cosine
returns-then-cosine c = rw (rw c.arccosine.ensures.name at c.in-Some.is, rw c.sine.ensures.name at c.in-Some-sine.is, c.if-sin_theta.true, c.if-cosine.true)

pub returns-then-sin_theta : goal.returns-then-sin_theta
unfolding slerp_cosine
returns-then-sin_theta c = rw (c.half_turn.ensures, rw c.arccosine.ensures.name at c.in-Some.is, rw c.sine.ensures.name at c.in-Some-sine.is, c.if-sin_theta.true, c.if-cosine.false)

pub returns : goal.returns
unfolding slerp_cosine
returns c = rw (c.weighted.ensures, rw c.arccosine.ensures.name at c.in-Some.is, rw c.sine.ensures.name at c.in-Some-sine.is, c.if-sin_theta.false)
