use Rattle.lists.proofs.Padding.{Clearing}
use Rattle.float.specs.Helpers.{nought}
use Rattle.cell.proofs.clearing.clear_numbers.Given as goal

abbrev pub invariant-loop-i : goal.invariant-loop-i
invariant-loop-i l = Clearing nought l.initial.numbers l.from l.numbers l.i
