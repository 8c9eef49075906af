use Prim.Native.Nat.{◌+◌, ◌≤◌}
use lib.ListN.{length}
use Rattle.lists.proofs.Fold.{Folding}
use Rattle.inverse.specs.Wraps.{add_pair}
use Rattle.inverse.proofs.wraps.add_row.Given as goal

abbrev pub invariant-loop-a1 : goal.invariant-loop-a1
invariant-loop-a1 l = record {
  count : length l.pairs.items ≤ length l.initial.pairs.items + l.a1-index;
  list : Folding (add_pair l.a0) l.initial.pairs.items l.second.items (length l.second.items) l.pairs.items l.a1-index;
}
