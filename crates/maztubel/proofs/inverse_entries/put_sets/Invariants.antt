use Rattle.maztubel.proofs.Sets.{Placing}
use Rattle.maztubel.proofs.inverse_entries.put_sets.Given as goal

abbrev pub invariant-loop-k : goal.invariant-loop-k
invariant-loop-k l = Placing l.solutions 250 l.list l.k
