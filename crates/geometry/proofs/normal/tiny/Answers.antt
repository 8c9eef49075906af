use Rattle.std.proofs.Common.{sym, ◌∙◌}
use mathlib.Core.Bool.{false≢true}
use Rattle.geometry.specs.Direction.{tiny}
use Rattle.geometry.proofs.normal.tiny.Goals as goal
use Rattle.geometry.proofs.normal.tiny.Goals.{then-size, else-size}

pub returns-then-size-2 : goal.returns-then-size-2
unfolding tiny
returns-then-size-2 c =
    elim c.if-size.branch [
      | then-size w ↦ rw (c.size-then-size-2.ensures, rw c.size.ensures at w.if-size.true, rw w.size-then-size.ensures at (sym w.value-is ∙ c.if-size-2.true))
      | else-size w ↦ absurd (false≢true (sym w.if-size.false ∙ (sym w.value-is ∙ c.if-size-2.true)))
    ]
