use Rattle.writer.proofs.Texts.{Posing}
use Rattle.writer.proofs.writing.put_poses.Given as goal

abbrev pub invariant-loop-x : goal.invariant-loop-x
invariant-loop-x l = Posing l.poses l.initial.page l.page l.x-index
