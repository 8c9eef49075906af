use mathlib.Core.Path.{ap}
use native.Mathlib.Omega.{arith}
use lib.ListN.{length}
use lib.Dec.{lit≤}
use Rattle.lists.proofs.Fold.{folding_start, folding_step}
use Rattle.lists.proofs.Library.{folding_all}
use Rattle.inverse.specs.Wraps.{angle_candidates}
use Rattle.inverse.proofs.wraps.angle_candidates.Goals as goal

pub loop-turns-init : goal.loop-turns-init
loop-turns-init c = record { count = omega (arith, ap length c.new-kept.ensures); list = rw c.new-kept.ensures (folding_start (lit≤ tt)) }

pub loop-turns-preserved : goal.loop-turns-preserved
loop-turns-preserved c = record { count = omega arith; list = folding_step _ (omega arith) c.loop-turns.invariant.list c.keep_allowed.ensures.list }

pub returns : goal.returns
unfolding angle_candidates
returns c = record { list = folding_all (omega arith) c.loop-turns.invariant.list; count = omega arith }
