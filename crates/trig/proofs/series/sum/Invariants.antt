-- `trig::series::sum` meets its contract: what is left of the sum, from here, is the whole of it. Assumes nothing.
use Rattle.std.proofs.Common.{◌≡◌}
use Rattle.trig.specs.Kernel.{sum}
use Rattle.trig.proofs.series.sum.Given as goal

abbrev pub invariant-loop-left : goal.invariant-loop-left
invariant-loop-left l = sum l.z l.y l.p l.left ≡ sum l.z l.taken l.p l.n
