use Rattle.std.proofs.Common.{◌≡◌, ◌+◌, ◌-◌, take, drop, arith, sym, ◌∙◌, drop-drop, append_assoc}
use lib.Seq.{sets-eq}
use Rattle.turn.specs.Items.{pose_numbers}
use Rattle.turn.proofs.Stored.{pose_sets}
use Rattle.turn.proofs.items.put_pose.Goals as goal

pub returns : goal.returns
returns c =
    let p = c.args.p in
    let l = c.args.out.now in
    let at = c.args.at in
    let k : at + 6 - at ≡ 6 = omega arith in
    rw (k, c.copy_from_slice.ensures.after, drop-drop)
    (sym (pose_sets p l at ∙ sets-eq (pose_numbers p) l at c.requires ∙ append_assoc (take at l) (pose_numbers p) (drop (at + 6) l)))
