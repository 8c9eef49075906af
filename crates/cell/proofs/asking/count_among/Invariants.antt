use Rattle.cell.proofs.Looking.{Looking}
use Rattle.cell.proofs.asking.count_among.Given as goal

abbrev pub invariant-loop-i : goal.invariant-loop-i
invariant-loop-i l = Looking l.words l.number l.n l.i
