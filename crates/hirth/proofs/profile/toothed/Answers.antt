use Rattle.hirth.specs.Profile.{tooth_pose, tooth_joints, toothed}
use Rattle.hirth.proofs.profile.toothed.Goals as goal

pub returns : goal.returns
unfolding toothed tooth_pose tooth_joints
returns c =
    rw (c.held.ensures, c.joints_from-placed.ensures, c.pose_from-reached.ensures, c.tooth_turns-turns.ensures, c.snapped_angles-angles.ensures, c.args.ready.now.made)
