use native.Mathlib.Omega.{arith}
use Rattle.machine.specs.Dividing.{division, division_after}
use Rattle.machine.proofs.Copies.{copied_poses}
use Rattle.machine.proofs.dividing.divide_solved.Goals as goal

pub returns : goal.returns
unfolding division division_after
returns c =
    let l = c.divide_after.ensures.lent in
    let all = copied_poses _ _ _ _ c.args.given.now c.args.out.now.poses.now _ c.requires.0 (omega arith) c.store.ensures
    (c.divide_after.ensures.answer, (l.in_poses, l.in_joints)) in
    record { answer = all.0; lent = record { same_poses = l.same_poses; same_joints = l.same_joints; as_much = l.as_much; in_poses = all.1.0; in_joints = all.1.1 } }
