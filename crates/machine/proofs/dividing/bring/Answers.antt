use mathlib.Core.Path.{refl}
use Rattle.machine.proofs.Bringing.{brought}
use Rattle.machine.proofs.dividing.bring.Goals as goal

pub returns : goal.returns
returns c =
    let all = brought _ _ _ _ c.requires.0 c.requires.1 c.args.out.now.poses_long c.args.out.now.joints_long c.copy_within.ensures.after c.copy_within-2.ensures.after in
    record {
      same = record { same_poses = refl; same_joints = refl; as_much = refl; long_poses = c.copy_within.ensures.len; long_joints = c.copy_within-2.ensures.len };
      first = all.0;
      rest = all.1;
    }
