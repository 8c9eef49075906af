use Rattle.middle.specs.Testing.{joints_between}
use Rattle.middle.proofs.testing.lerp_joints.Goals as goal

pub returns : goal.returns
unfolding joints_between
returns c = rw c.lerp_vec-xyz.ensures
