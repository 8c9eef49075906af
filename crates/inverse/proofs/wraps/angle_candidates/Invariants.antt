use Prim.Native.Nat.{◌≤◌}
use mathlib.Core.List.{[]}
use lib.ListN.{length}
use Rattle.geometry.specs.Vector.{plus}
use Rattle.lists.proofs.Fold.{Folding}
use Rattle.inverse.specs.Wraps.{whole_turns, keep_allowed}
use Rattle.inverse.proofs.wraps.angle_candidates.Given as goal

abbrev pub invariant-loop-turns : goal.invariant-loop-turns
invariant-loop-turns l = record {
  count : length l.kept.items ≤ l.turns-index;
  list : Folding (λ kept turns. keep_allowed l.travel kept (plus l.angle turns)) [] whole_turns 5 l.kept.items l.turns-index;
}
