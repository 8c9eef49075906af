use Rattle.geometry.specs.Slerp.{half_turn}
use Rattle.geometry.proofs.slerp.half_turn.Goals as goal

pub returns-in_default : goal.returns-in_default
unfolding half_turn
returns-in_default c = rw (simp (c.unit_direction.ensures, c.cross.ensures, c.side_helper-helper.ensures) at c.in_default.is)

pub returns-in_default-sine_cosine : goal.returns-in_default-sine_cosine
unfolding half_turn
returns-in_default-sine_cosine c = rw (simp (c.unit_direction.ensures, c.cross.ensures, c.side_helper-helper.ensures) at c.in-Some.is, simp (c.sine_cosine.ensures.name, c.unit_direction.ensures, c.cross.ensures) at c.in_default-sine_cosine.is)

pub returns : goal.returns
unfolding half_turn
returns c = rw (c.unit_or.ensures, c.add.ensures, c.mul-2.ensures, c.mul.ensures, simp (c.unit_direction.ensures, c.cross.ensures, c.side_helper-helper.ensures) at c.in-Some.is, simp (c.sine_cosine.ensures.name, c.unit_direction.ensures, c.cross.ensures) at c.in-Some-sine_cosine.is)
