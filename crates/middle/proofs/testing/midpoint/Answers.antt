use Rattle.middle.specs.Testing.{midpoint}
use Rattle.middle.proofs.testing.midpoint.Goals as goal

pub returns : goal.returns
unfolding midpoint
returns c = rw (c.pose_of-pose.ensures, c.lerp_joints-joints.ensures)
