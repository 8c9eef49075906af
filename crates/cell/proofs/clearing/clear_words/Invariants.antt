use Rattle.lists.proofs.Padding.{Clearing}
use Rattle.cell.proofs.clearing.clear_words.Given as goal

abbrev pub invariant-loop-i : goal.invariant-loop-i
invariant-loop-i l = Clearing 0 l.initial.words l.from l.words l.i
