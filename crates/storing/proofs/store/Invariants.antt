use mathlib.Core.Path.{◌≡◌}
use lib.ListN.{length}
use lib.Seq.{paste}
use Rattle.storing.proofs.store.Given as goal

-- so many elements are stored
abbrev pub invariant-loop-i : goal.invariant-loop-i
invariant-loop-i g l = (length l.to ≡ length l.initial.to) × (l.to ≡ paste l.initial.to l.at l.from l.i)
