use Prim.Native.Nat.{◌≤◌}
use mathlib.Core.List.{[]}
use lib.ListN.{length}
use Rattle.lists.proofs.Fold.{Folding}
use Rattle.inverse.specs.Inverse.{taken_in}
use Rattle.inverse.proofs.inverse_map.all_solutions.Given as goal

abbrev pub invariant-loop-angles : goal.invariant-loop-angles
invariant-loop-angles l = record {
  count : length l.solutions.items ≤ l.angles-index;
  list : Folding (taken_in l.p l.pose.axis l.pose.tip l.tool_length) [] l.pairs.items (length l.pairs.items) l.solutions.items l.angles-index;
}
