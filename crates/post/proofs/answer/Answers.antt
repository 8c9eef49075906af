use Rattle.std.proofs.Common.{◌≤◌, length, rules, arith}
use Rattle.post.proofs.Shown.{lies_within}
use Rattle.post.proofs.answer.Goals as goal

pub shared_ref_as_front-write_all : goal.shared_ref_as_front-write_all
shared_ref_as_front-write_all g c =
    let l : length c.post-end.new.room.text ≤ 65536 = search rules in
    let h = lies_within _ _ _ (c.post-end.ensures.end, c.post-end.ensures.text) in
    omega (arith, l, h)
