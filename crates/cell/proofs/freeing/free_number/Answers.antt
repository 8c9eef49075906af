use native.Mathlib.Omega.{arith}
use mathlib.Core.Path.{ap, sym, ◌∙◌}
use mathlib.Core.Bool.{not}
use Rattle.cell.proofs.Looking.{freeing_start, freeing_found, freeing_on, freeing_end}
use Rattle.cell.proofs.freeing.free_number.Goals as goal

pub loop-k-init : goal.loop-k-init
loop-k-init c = freeing_start _ _

pub returns-then-not-has_number : goal.returns-then-not-has_number
returns-then-not-has_number c = freeing_found _ _ c.loop-k-test.true c.loop-k.invariant (ap not (sym c.has_number.ensures ∙ c.if-not-has_number.true))

pub loop-k-preserved : goal.loop-k-preserved
loop-k-preserved c = freeing_on _ _ c.loop-k-test.true c.loop-k.invariant (ap not (sym c.has_number.ensures ∙ c.if-not-has_number.false))

pub returns : goal.returns
returns c = freeing_end _ _ c.loop-k-test.false (omega arith) c.loop-k.invariant
