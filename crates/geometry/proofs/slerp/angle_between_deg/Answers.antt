use Rattle.geometry.specs.Slerp.{angle_between_deg}
use Rattle.geometry.proofs.slerp.angle_between_deg.Goals as goal

pub returns-in_default : goal.returns-in_default
unfolding angle_between_deg
returns-in_default c = rw (rw c.unit_direction.ensures at c.in_default.is)

pub returns-in_default-unit_direction : goal.returns-in_default-unit_direction
unfolding angle_between_deg
returns-in_default-unit_direction c = rw (rw c.unit_direction.ensures at c.in-Some.is, simp (c.unit_direction-2.ensures, c.unit_direction.ensures) at c.in_default-unit_direction.is)

pub returns-in_default-arctangent : goal.returns-in_default-arctangent
unfolding angle_between_deg
returns-in_default-arctangent c = rw (rw c.unit_direction.ensures at c.in-Some.is, simp (c.unit_direction-2.ensures, c.unit_direction.ensures) at c.in-Some-unit_direction.is, simp (c.arctangent.ensures.name, c.clamp_unit-cosine.ensures, c.dot.ensures, c.norm-sine.ensures, c.cross.ensures) at c.in_default-arctangent.is)

pub returns : goal.returns
unfolding angle_between_deg
returns c = rw (c.size.ensures, c.to_degrees.ensures, rw c.unit_direction.ensures at c.in-Some.is, simp (c.unit_direction-2.ensures, c.unit_direction.ensures) at c.in-Some-unit_direction.is, simp (c.arctangent.ensures.name, c.clamp_unit-cosine.ensures, c.dot.ensures, c.norm-sine.ensures, c.cross.ensures) at c.in-Some-arctangent.is)
