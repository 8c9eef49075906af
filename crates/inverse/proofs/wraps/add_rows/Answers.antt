use mathlib.Core.Path.{ap}
use lib.ListN.{length}
use native.Mathlib.Omega.{arith}
use Rattle.lists.proofs.Fold.{folding_start, folding_step}
use Rattle.lists.proofs.Library.{folding_all}
use Rattle.inverse.specs.Wraps.{add_rows}
use Rattle.inverse.proofs.wraps.add_rows.Goals as goal

pub loop-a0-init : goal.loop-a0-init
loop-a0-init c = record { count = omega arith; list = folding_start (omega arith) }

pub loop-a0-preserved : goal.loop-a0-preserved
loop-a0-preserved c = record { count = omega arith; list = folding_step _ (omega (arith, ap length c.deref-a0-items.ensures.0)) c.loop-a0.invariant.list (rw c.deref-a0-items.ensures.0 at c.add_row.ensures.list) }

pub returns : goal.returns
unfolding add_rows
returns c = let all = ap length c.deref-a0-items.ensures.0 in record { list = folding_all (omega (arith, all)) c.loop-a0.invariant.list; count = omega (arith, all, c.deref-a0-items.ensures.1) }
