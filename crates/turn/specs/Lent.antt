-- Two lent outputs after a call: the same two, of the same space.
use Rattle.std.specs.Prelude.{◌≡◌, List, Float, length}
use Rattle.turn.specs.declared.outputs.Outputs.{Outputs}

pub record Same (old new : Outputs) : Type 0 where
  pub same_poses : new.poses.ghost_name ≡ old.poses.ghost_name
  pub same_joints : new.joints.ghost_name ≡ old.joints.ghost_name
  pub as_much : new.space ≡ old.space
  pub long_poses : length new.poses.now ≡ length old.poses.now
  pub long_joints : length new.joints.now ≡ length old.joints.now

-- with such numbers in them
pub record Left (old : Outputs) (poses joints : List Float) (new : Outputs) : Type 0 where
  pub same_poses : new.poses.ghost_name ≡ old.poses.ghost_name
  pub same_joints : new.joints.ghost_name ≡ old.joints.ghost_name
  pub as_much : new.space ≡ old.space
  pub in_poses : new.poses.now ≡ poses
  pub in_joints : new.joints.now ≡ joints
