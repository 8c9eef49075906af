use lib.ListN.{length}
use Rattle.trig.specs.Arctangent.{arctangent_of}
use Rattle.lists.specs.Rows.{paired}
use Rattle.maztubel.proofs.Laws.{Writing}
use Rattle.maztubel.proofs.of_pairs.Given as goal

abbrev pub invariant-loop-i : goal.invariant-loop-i
invariant-loop-i l = Writing (paired arctangent_of l.ys l.xs) l.initial.answers (length l.xs) l.answers l.i
