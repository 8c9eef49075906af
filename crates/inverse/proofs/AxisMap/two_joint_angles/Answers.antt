use Rattle.inverse.specs.Orientation.{two_joint_angles}
use Rattle.inverse.proofs.AxisMap.two_joint_angles.Goals as goal

pub returns-then-parallel_axes : goal.returns-then-parallel_axes
unfolding two_joint_angles
returns-then-parallel_axes c = rw (c.first_only.ensures, c.parallel_angles.ensures, rw c.parallel_axes.ensures at c.if-parallel_axes.true)

pub returns : goal.returns
unfolding two_joint_angles
returns c = rw (c.raw_of-second.ensures, c.raw_of-first.ensures, c.sp2-pairs.ensures, rw c.parallel_axes.ensures at c.if-parallel_axes.false)
