use Rattle.geometry.specs.Slerp.{slerp_axis}
use Rattle.geometry.proofs.slerp.slerp_axis.Goals as goal

pub returns-in_default : goal.returns-in_default
unfolding slerp_axis
returns-in_default c = rw (rw c.unit_direction.ensures at c.in_default.is)

pub returns-in_default-unit_direction : goal.returns-in_default-unit_direction
unfolding slerp_axis
returns-in_default-unit_direction c = rw (rw c.unit_direction.ensures at c.in-Some.is, rw c.unit_direction-2.ensures at c.in_default-unit_direction.is)

pub returns : goal.returns
unfolding slerp_axis
returns c = rw (c.slerp_cosine.ensures, c.clamp_unit-cosine.ensures, c.dot.ensures, rw c.unit_direction.ensures at c.in-Some.is, rw c.unit_direction-2.ensures at c.in-Some-unit_direction.is)
