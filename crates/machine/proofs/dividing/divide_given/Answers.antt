use native.Mathlib.Omega.{arith}
use Rattle.machine.proofs.Copies.{copied_joints}
use Rattle.machine.proofs.dividing.divide_given.Goals as goal

pub returns : goal.returns
returns c =
    let whole = c.args.given.now.joints_whole in
    let l = c.divide_solved.ensures.lent in
    let all = copied_joints _ _ _ _ _ c.args.given.now.joints.now _ c.args.out.now.joints.now whole (omega (arith, whole, c.requires)) c.store.ensures
    (c.divide_solved.ensures.answer, (l.in_poses, l.in_joints)) in
    record { answer = all.0; lent = record { same_poses = l.same_poses; same_joints = l.same_joints; as_much = l.as_much; in_poses = all.1.0; in_joints = all.1.1 } }
