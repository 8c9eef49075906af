use mathlib.Core.List.{map}
use lib.ListN.{length}
use Rattle.maztubel.proofs.Laws.{Writing}
use Rattle.maztubel.proofs.of_each.Given as goal

abbrev pub invariant-loop-i : goal.invariant-loop-i
invariant-loop-i g l = Writing (map g.F.Answered.answer l.xs) l.initial.answers (length l.xs) l.answers l.i
