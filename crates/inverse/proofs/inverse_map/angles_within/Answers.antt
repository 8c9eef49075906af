use Rattle.inverse.specs.Inverse.{hint_within}
use Rattle.inverse.proofs.inverse_map.angles_within.Goals as goal

pub returns-then-within : goal.returns-then-within
unfolding hint_within
returns-then-within c = rw (c.within-then-within.ensures, rw c.within.ensures at c.if-within.true)

pub returns-else-within : goal.returns-else-within
unfolding hint_within
returns-else-within c = rw (c.if-within.false, rw c.within.ensures at c.if-within.false)
