use mathlib.Core.Path.{refl}
use Rattle.turn.specs.Items.{poses_with, joints_with}
use Rattle.turn.proofs.outputs.Outputs.put.Goals as goal

pub returns : goal.returns
unfolding poses_with joints_with
returns c = record { same_poses = refl; same_joints = refl; as_much = refl; in_poses = c.put_pose.ensures; in_joints = c.put_joints.ensures }
