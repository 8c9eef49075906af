use Rattle.middle.specs.Testing.{pose_within}
use Rattle.middle.proofs.testing.pose_within.Goals as goal

pub returns-then-gap_vec-tol : goal.returns-then-gap_vec-tol
unfolding pose_within
returns-then-gap_vec-tol c = rw (c.angle_between_deg.ensures, c.slerp_axis-axis.ensures, rw (c.gap_vec.ensures, c.lerp_vec-tip.ensures) at c.if-gap_vec-tol.true)

pub returns : goal.returns
unfolding pose_within
returns c = rw (rw (c.gap_vec.ensures, c.lerp_vec-tip.ensures) at c.if-gap_vec-tol.false)
