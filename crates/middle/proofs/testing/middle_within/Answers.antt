use Rattle.middle.specs.Testing.{middle_within}
use Rattle.middle.proofs.testing.middle_within.Goals as goal

pub returns-then-tip_gap-tol : goal.returns-then-tip_gap-tol
unfolding middle_within
returns-then-tip_gap-tol c = rw (c.axis_gap.ensures, rw c.tip_gap.ensures at c.if-tip_gap-tol.true)

pub returns-else-tip_gap-tol : goal.returns-else-tip_gap-tol
unfolding middle_within
returns-else-tip_gap-tol c = rw (rw c.tip_gap.ensures at c.if-tip_gap-tol.false) c.if-tip_gap-tol.false
