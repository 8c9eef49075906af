use lib.ListN.{length}
use Rattle.job.proofs.Copying.{Copying}
use Rattle.job.proofs.lending.numbers_at.Given as goal

abbrev pub invariant-loop-i : goal.invariant-loop-i
invariant-loop-i l = Copying l.bytes l.at (length l.initial.out) l.initial.out l.out l.i
