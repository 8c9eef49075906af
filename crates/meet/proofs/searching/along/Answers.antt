use Rattle.meet.proofs.Seeking.{following_start, following_step, following_found, following_end}
use Rattle.meet.proofs.searching.along.Goals as goal

pub loop-pose-init : goal.loop-pose-init
loop-pose-init c = following_start _ c.as_chunks.ensures.front

pub returns-in-Some : goal.returns-in-Some
returns-in-Some c =
    following_found _ c.loop-pose-test.true c.loop-pose.invariant c.joints_in.ensures c.at_pose.ensures c.in-Some.is

pub loop-pose-preserved : goal.loop-pose-preserved
loop-pose-preserved c =
    following_step _ c.loop-pose-test.true c.loop-pose.invariant c.joints_in.ensures c.at_pose.ensures c.in_default.is

pub returns : goal.returns
returns c = following_end c.loop-pose-test.false c.loop-pose.invariant
