use Rattle.job.proofs.Lines.{Fitting}
use Rattle.job.proofs.telling.room_left.Given as goal

abbrev pub invariant-loop-i : goal.invariant-loop-i
invariant-loop-i l = Fitting l.n l.used l.room l.left l.i
