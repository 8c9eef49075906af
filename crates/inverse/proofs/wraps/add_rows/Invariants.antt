use Prim.Native.Nat.{◌+◌, ◌*◌, ◌≤◌}
use lib.ListN.{length}
use Rattle.lists.proofs.Fold.{Folding}
use Rattle.inverse.specs.Wraps.{add_row}
use Rattle.inverse.proofs.wraps.add_rows.Given as goal

abbrev pub invariant-loop-a0 : goal.invariant-loop-a0
invariant-loop-a0 l = record {
  count : length l.pairs.items ≤ length l.initial.pairs.items + 5 * l.a0-index;
  list : Folding (add_row l.second.items) l.initial.pairs.items l.first.items (length l.first.items) l.pairs.items l.a0-index;
}
