use Rattle.job.proofs.Written.{Digits}
use Rattle.job.proofs.spelling.hexadecimal.Given as goal

abbrev pub invariant-loop-i : goal.invariant-loop-i
invariant-loop-i l = Digits l.x l.byte-items l.i
