use mathlib.Core.Path.{sym, ap, ◌∙◌}
use borrow.Author.Rules.{rules}
use borrow.Author.Tests.{lt-ltb}
use Rattle.halving.specs.Halving.{Answer}
use Rattle.machine.specs.Dividing.{divided_in, poses_over, joints_over}
use Rattle.machine.specs.Filling.{filled}
use Rattle.middle.specs.declared.Item.{Item}
use Rattle.turn.proofs.Space.{space_so}
use Rattle.machine.proofs.Pairs.{filled_is}
use Rattle.machine.proofs.filling.fill_pair.Goals as goal

pub returns-then-space-lt2 : goal.returns-then-space-lt2
unfolding filled
returns-then-space-lt2 c = let e = lt-ltb _ _ c.if-space-lt2.true in record { answer = rw (← c.space_in-space.ensures, e) c.without_space.ensures.answer; poses = rw (← c.space_in-space.ensures, e) c.without_space.ensures.poses; joints = rw (← c.space_in-space.ensures, e) c.without_space.ensures.joints }

pub invariant_of-out : goal.invariant_of-out
invariant_of-out c = let all = space_so c.space_in-space.ensures in record { poses_long = all.0; joints_long = all.1 }

pub returns : goal.returns
returns c =
    let s = sym (filled_is c.args.p c.args.had c.args.tol c.args.left c.args.right c.args.poses.now c.args.joints.now c.space_in-space.ensures c.if-space-lt2.false) in
    let l = c.fill_space.ensures.lent in
    let f = l.in_poses ∙ ap (λ (a : Answer Item). poses_over a c.args.poses.now) s in
    let g = l.in_joints ∙ ap (λ (a : Answer Item). joints_over a c.args.joints.now) s in
    record { answer = c.fill_space.ensures.answer ∙ ap divided_in s; poses = search rules; joints = search rules }
