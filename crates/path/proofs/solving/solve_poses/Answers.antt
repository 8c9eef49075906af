use mathlib.Core.Path.{◌∙◌, sym}
use Rattle.path.proofs.Walking.{walking_start, walking_step, walking_refused, walking_end}
use Rattle.path.proofs.solving.solve_poses.Goals as goal

pub loop-i-init : goal.loop-i-init
loop-i-init c = walking_start c.args.s.now.setup c.args.start _ _ c.requires

pub returns-in-Err : goal.returns-in-Err
returns-in-Err c =
    let all = walking_refused c.loop-i-test.true
    c.loop-i.invariant
    (rw c.pose_in-pose.ensures at c.pose_answer_of.ensures)
    c.in-Err.is
    (c.fill.ensures.after (λ y e. e)) in
    record { checked = all.0; lent = all.1 }

pub loop-i-preserved : goal.loop-i-preserved
loop-i-preserved c =
    rw (c.put_joints.ensures, c.from-previous.ensures)
    (walking_step c.loop-i-test.true
    c.loop-i.invariant
    ((rw c.pose_in-pose.ensures at (sym c.pose_answer_of.ensures))
    ∙ c.in-Ok.is))

pub returns : goal.returns
returns c = let all = walking_end c.loop-i-test.false c.loop-i.invariant c.clear_from.ensures in record { checked = all.0; lent = all.1 }
