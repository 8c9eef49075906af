use Rattle.geometry.specs.Turn.{turn_of}
use Rattle.geometry.proofs.Turn.of.Goals as goal

pub returns-in_default : goal.returns-in_default
unfolding turn_of
returns-in_default c = rw (c.still.ensures, simp c.of_degrees.ensures.name at c.in_default.is)

pub returns : goal.returns
unfolding turn_of
returns c = rw (simp c.of_degrees.ensures.name at c.in-Some.is)
