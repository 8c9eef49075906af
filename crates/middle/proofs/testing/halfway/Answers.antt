use Rattle.geometry.specs.Slerp.{slerp_axis, slerp_cosine}
use Rattle.middle.proofs.Halfway.{unit_or_by, weighted_half}
use Rattle.middle.proofs.testing.halfway.Goals as goal

pub returns-in_default : goal.returns-in_default
unfolding slerp_axis
returns-in_default c =
    rw (rw c.unit_direction.ensures at c.in_default.is)

pub returns-in_default-unit_direction : goal.returns-in_default-unit_direction
unfolding slerp_axis
returns-in_default-unit_direction c =
    rw (
      rw c.unit_direction.ensures at c.in-Some.is,
      rw c.unit_direction-2.ensures at c.in_default-unit_direction.is,
    )

pub returns-in_default-arccosine : goal.returns-in_default-arccosine
unfolding slerp_axis slerp_cosine
returns-in_default-arccosine c =
    rw (
      rw c.unit_direction.ensures at c.in-Some.is,
      rw c.unit_direction-2.ensures at c.in-Some-unit_direction.is,
      rw (c.arccosine.ensures.name, c.clamp_unit-cosine.ensures, c.dot.ensures) at c.in_default-arccosine.is,
    )

pub returns-in_default-sine : goal.returns-in_default-sine
unfolding slerp_axis slerp_cosine
returns-in_default-sine c =
    rw (
      rw c.unit_direction.ensures at c.in-Some.is,
      rw c.unit_direction-2.ensures at c.in-Some-unit_direction.is,
      rw (c.arccosine.ensures.name, c.clamp_unit-cosine.ensures, c.dot.ensures) at c.in-Some-arccosine.is,
      rw c.sine.ensures.name at c.in_default-sine.is,
    )

pub returns-then-cosine : goal.returns-then-cosine
unfolding slerp_axis slerp_cosine
returns-then-cosine c =
    rw (
      rw c.unit_direction.ensures at c.in-Some.is,
      rw c.unit_direction-2.ensures at c.in-Some-unit_direction.is,
      rw (c.arccosine.ensures.name, c.clamp_unit-cosine.ensures, c.dot.ensures) at c.in-Some-arccosine.is,
      rw c.sine.ensures.name at c.in-Some-sine.is,
      c.if-sin_theta.true,
      rw (c.clamp_unit-cosine.ensures, c.dot.ensures) at c.if-cosine.true,
    )

pub returns-in_default-sine-2 : goal.returns-in_default-sine-2
unfolding slerp_axis slerp_cosine
returns-in_default-sine-2 c =
    rw (
      rw c.unit_direction.ensures at c.in-Some.is,
      rw c.unit_direction-2.ensures at c.in-Some-unit_direction.is,
      rw (c.arccosine.ensures.name, c.clamp_unit-cosine.ensures, c.dot.ensures) at c.in-Some-arccosine.is,
      rw c.sine.ensures.name at c.in-Some-sine.is,
      c.if-sin_theta.false,
      weighted_half c.in-Some.first c.in-Some-unit_direction.last c.in-Some-arccosine.theta c.in-Some-sine.sin_theta,
      rw c.sine-2.ensures.name at c.in_default-sine-2.is,
    )

pub returns : goal.returns
unfolding slerp_axis slerp_cosine
returns c =
    rw (
      unit_or_by _ _ c.unit_direction-3.ensures c.unwrap_or.ensures,
      c.add.ensures,
      c.mul-2.ensures,
      c.mul.ensures,
      rw c.unit_direction.ensures at c.in-Some.is,
      rw c.unit_direction-2.ensures at c.in-Some-unit_direction.is,
      rw (c.arccosine.ensures.name, c.clamp_unit-cosine.ensures, c.dot.ensures) at c.in-Some-arccosine.is,
      rw c.sine.ensures.name at c.in-Some-sine.is,
      c.if-sin_theta.false,
      weighted_half c.in-Some.first c.in-Some-unit_direction.last c.in-Some-arccosine.theta c.in-Some-sine.sin_theta,
      rw c.sine-2.ensures.name at c.in-Some-sine-2.is,
    )
