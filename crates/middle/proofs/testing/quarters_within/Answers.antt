use Rattle.middle.specs.Testing.{quarters_within}
use Rattle.middle.proofs.testing.quarters_within.Goals as goal

pub returns-then-within_at : goal.returns-then-within_at
unfolding quarters_within
returns-then-within_at c = rw (c.within_at-then-within_at.ensures, rw c.within_at.ensures at c.if-within_at.true)

pub returns-else-within_at : goal.returns-else-within_at
unfolding quarters_within
returns-else-within_at c = rw (rw c.within_at.ensures at c.if-within_at.false) c.if-within_at.false
