use Rattle.probe.proofs.Laws.{Rooting}
use Rattle.probe.proofs.probe_roots.Given as goal

abbrev pub invariant-loop-i : goal.invariant-loop-i
invariant-loop-i l = Rooting l.xs l.initial.answer-items l.answer-items l.i
