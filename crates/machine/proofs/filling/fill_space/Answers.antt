use native.Mathlib.Omega.{arith}
use mathlib.Core.Path.{◌∙◌}
use Rattle.machine.proofs.Pairs.{pair_filled, counted_most}
use Rattle.machine.proofs.filling.fill_space.Goals as goal

pub divide_after-said-requires : goal.divide_after-said-requires
divide_after-said-requires c =
    let m = counted_most _ c.counted.ensures in
    let e = c.put-2.ensures.as_much ∙ c.put.ensures.as_much in
    omega (arith, m, e, c.requires)

pub returns : goal.returns
returns c =
    let e = c.put-2.ensures.as_much ∙ c.put.ensures.as_much in
    let l = c.divide_after-said.ensures.lent in
    let all = pair_filled _ _ _ _ _ _ _ _ (omega (arith, c.requires)) (omega (arith, c.requires))
    c.put.ensures.in_poses c.put.ensures.in_joints c.put-2.ensures.in_poses c.put-2.ensures.in_joints
    c.counted.ensures (c.divide_after-said.ensures.answer, (l.in_poses, l.in_joints)) c.recounted.ensures in
    record {
      answer = rw e at all.0;
      lent = record {
        same_poses = l.same_poses ∙ c.put-2.ensures.same_poses ∙ c.put.ensures.same_poses;
        same_joints = l.same_joints ∙ c.put-2.ensures.same_joints ∙ c.put.ensures.same_joints;
        as_much = l.as_much ∙ e;
        in_poses = rw e at all.1.0;
        in_joints = rw e at all.1.1;
      };
    }
