use borrow.Author.Tests.{le-leb, lt-leb}
use Rattle.turn.specs.Turning.{end_at_start}
use Rattle.machine.proofs.dividing.end_at_start.Goals as goal

pub returns-then-count-le1 : goal.returns-then-count-le1
unfolding end_at_start
returns-then-count-le1 c = rw (le-leb _ _ c.if-count-le1.true)

pub returns : goal.returns
unfolding end_at_start
returns c = rw (c.axis_at.ensures, lt-leb _ _ c.if-count-le1.false)
