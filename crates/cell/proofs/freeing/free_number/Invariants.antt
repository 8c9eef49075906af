use Rattle.cell.proofs.Looking.{Freeing}
use Rattle.cell.proofs.freeing.free_number.Given as goal

abbrev pub invariant-loop-k : goal.invariant-loop-k
invariant-loop-k l = Freeing l.n l.words l.k
