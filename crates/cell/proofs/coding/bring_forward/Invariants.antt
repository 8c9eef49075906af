use mathlib.Core.Path.{◌≡◌}
use Prim.Native.Nat.{◌*◌}
use Rattle.cell.specs.Coding.{forward}
use Rattle.cell.proofs.coding.bring_forward.Given as goal

-- twice so many elements have come forward
abbrev pub invariant-loop-i : goal.invariant-loop-i
invariant-loop-i g l = l.to ≡ forward l.w (l.i * 2) l.initial.to
