use Rattle.middle.specs.Testing.{segment_within}
use Rattle.middle.proofs.testing.segment_within.Goals as goal

pub returns-then-joints_unchanged : goal.returns-then-joints_unchanged
unfolding segment_within
returns-then-joints_unchanged c = rw (rw c.joints_unchanged.ensures at c.if-joints_unchanged.true)

pub returns : goal.returns
unfolding segment_within
returns c = rw (c.portions_within.ensures, c.pose_of-to.ensures, c.pose_of-from.ensures, rw c.joints_unchanged.ensures at c.if-joints_unchanged.false)

pub portions_within-requires : goal.portions_within-requires
portions_within-requires c = c.midpoint-middle.ensures
