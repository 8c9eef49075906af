use Rattle.geometry.specs.Vector.{norm}
use Rattle.geometry.specs.Direction.{unit_direction}
use Rattle.std.proofs.lemmas.Bool.{not_from_true}
use Rattle.std.proofs.lemmas.Bool.{not_from_false}
use Rattle.geometry.proofs.normal.unit_direction.Goals as goal

pub returns-then-not-all_finite : goal.returns-then-not-all_finite
unfolding unit_direction
returns-then-not-all_finite c = rw (rw c.all_finite.ensures at (not_from_false _ c.if-not-all_finite.true))

pub returns-then-tiny : goal.returns-then-tiny
unfolding unit_direction
returns-then-tiny c = rw (rw c.all_finite.ensures at (not_from_true _ c.if-not-all_finite.false), rw c.tiny.ensures at c.if-tiny.true)

pub returns : goal.returns
unfolding unit_direction norm
returns c = rw (c.with_length.ensures, c.norm.ensures, rw c.all_finite.ensures at (not_from_true _ c.if-not-all_finite.false), rw c.tiny.ensures at c.if-tiny.false)
