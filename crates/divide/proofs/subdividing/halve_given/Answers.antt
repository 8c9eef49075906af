use mathlib.Core.Path.{◌∙◌, sym}
use borrow.Author.Rules.{rules}
use Rattle.chain.specs.Prepared.{prepared}
use Rattle.turn.specs.Items.{items_in}
use Rattle.turn.proofs.Stored.{items_length}
use Rattle.turn.proofs.Space.{space_so}
use Rattle.divide.proofs.Idle.{idle_within, busy, busy_items}
use Rattle.divide.proofs.subdividing.halve_given.Goals as goal

pub returns-then-idle : goal.returns-then-idle
returns-then-idle c =
    let e = idle_within (prepared c.args.k.now) c.args.tol c.space_in-space.result c.args.given.now.count (items_in c.args.given.now.count c.args.given.now.poses.now c.args.given.now.joints.now) (items_length c.args.given.now.count c.args.given.now.poses.now c.args.given.now.joints.now) (sym c.idle.ensures ∙ c.if-idle.true) in
    let x = rw (← e) at c.cleared.ensures.lent.in_poses in
    let y = rw (← e) at c.cleared.ensures.lent.in_joints in
    rw (← c.space_in-space.ensures) (record { answer = rw e c.cleared.ensures.answer; poses = search rules; joints = search rules })

pub invariant_of-out : goal.invariant_of-out
invariant_of-out c = let all = space_so c.space_in-space.ensures in record { poses_long = all.0; joints_long = all.1 }

pub invariant_of-out-2 : goal.invariant_of-out-2
invariant_of-out-2 c = let all = space_so c.space_in-space.ensures in record { poses_long = all.0; joints_long = all.1 }

pub divide_given-requires : goal.divide_given-requires
divide_given-requires c = let b = busy c.space_in-space.result c.args.given.now.count (sym c.idle.ensures ∙ c.if-idle.false) in (b.0, b.1)

pub returns : goal.returns
returns c =
    let b = busy c.space_in-space.result c.args.given.now.count (sym c.idle.ensures ∙ c.if-idle.false) in
    let s = busy_items (prepared c.args.k.now) c.args.tol c.space_in-space.result c.args.given.now.count c.args.given.now.poses.now c.args.given.now.joints.now b.1 in
    let l = rw c.prepare-p.ensures at c.divide_given.ensures.lent in
    let x = rw (← s) at l.in_poses in
    let y = rw (← s) at l.in_joints in
    rw (← c.space_in-space.ensures) (record { answer = rw s (rw c.prepare-p.ensures at c.divide_given.ensures.answer); poses = search rules; joints = search rules })
