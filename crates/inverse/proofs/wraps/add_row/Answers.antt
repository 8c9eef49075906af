use mathlib.Core.Path.{ap}
use lib.ListN.{length}
use native.Mathlib.Omega.{arith}
use Rattle.lists.proofs.Fold.{folding_start, folding_step}
use Rattle.lists.proofs.Library.{folding_all}
use Rattle.inverse.specs.Wraps.{add_row}
use Rattle.inverse.proofs.wraps.add_row.Goals as goal

pub loop-a1-init : goal.loop-a1-init
loop-a1-init c = record { count = omega arith; list = folding_start (omega arith) }

pub loop-a1-preserved : goal.loop-a1-preserved
loop-a1-preserved c = record { count = omega arith; list = folding_step _ (omega (arith, ap length c.deref-a1-items.ensures.0)) c.loop-a1.invariant.list (rw c.deref-a1-items.ensures.0 at c.add_pair.ensures.list) }

pub returns : goal.returns
unfolding add_row
returns c = let all = ap length c.deref-a1-items.ensures.0 in record { list = folding_all (omega (arith, all)) c.loop-a1.invariant.list; count = omega (arith, all, c.deref-a1-items.ensures.1) }
