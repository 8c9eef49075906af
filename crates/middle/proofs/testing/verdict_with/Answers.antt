use Rattle.middle.specs.Testing.{verdict_with}
use Rattle.middle.proofs.testing.verdict_with.Goals as goal

pub returns-then-joints_unchanged : goal.returns-then-joints_unchanged
unfolding verdict_with
returns-then-joints_unchanged c = rw (rw c.joints_unchanged.ensures at c.if-joints_unchanged.true)

pub returns-then-portions_within : goal.returns-then-portions_within
unfolding verdict_with
returns-then-portions_within c = rw (rw c.joints_unchanged.ensures at c.if-joints_unchanged.false, rw c.portions_within.ensures at c.if-portions_within.true)

pub returns-then-near_an_end : goal.returns-then-near_an_end
unfolding verdict_with
returns-then-near_an_end c = rw (rw c.joints_unchanged.ensures at c.if-joints_unchanged.false, rw c.portions_within.ensures at c.if-portions_within.false, rw (c.near_an_end.ensures, c.midpoint-middle.ensures) at c.if-near_an_end.true)

pub returns : goal.returns
unfolding verdict_with
returns c = rw (c.midpoint-middle.ensures, rw c.joints_unchanged.ensures at c.if-joints_unchanged.false, rw c.portions_within.ensures at c.if-portions_within.false, rw (c.near_an_end.ensures, c.midpoint-middle.ensures) at c.if-near_an_end.false)

pub portions_within-requires : goal.portions_within-requires
portions_within-requires c = c.midpoint-middle.ensures
