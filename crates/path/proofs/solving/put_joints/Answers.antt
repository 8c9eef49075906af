use Rattle.std.proofs.Common.{◌≡◌, ◌+◌, ◌-◌, arith, drop-drop}
use Rattle.path.proofs.Walking.{joints_between}
use Rattle.path.proofs.solving.put_joints.Goals as goal

pub returns : goal.returns
returns c =
    let k : c.args.at + 5 - c.args.at ≡ 5 = omega arith in
    rw (k, c.copy_from_slice.ensures.after, drop-drop) (joints_between c.args.j c.args.out.now c.args.at c.requires)
