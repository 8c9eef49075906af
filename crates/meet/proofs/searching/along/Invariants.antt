use Rattle.meet.specs.MeetingSteps.{pair_at}
use Rattle.meet.proofs.Seeking.{Following}
use Rattle.meet.proofs.searching.along.Given as goal

abbrev pub invariant-loop-pose : goal.invariant-loop-pose
invariant-loop-pose l = Following (pair_at l.p l.balls.items) l.joints l.sets l.pose
