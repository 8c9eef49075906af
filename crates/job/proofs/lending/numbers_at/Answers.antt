use Rattle.std.proofs.Common.{arith}
use Rattle.job.proofs.Copying.{copying_start, copying_step}
use Rattle.job.proofs.lending.numbers_at.Goals as goal

pub loop-i-init : goal.loop-i-init
loop-i-init c = copying_start (omega arith)

pub loop-i-preserved : goal.loop-i-preserved
loop-i-preserved c = copying_step (omega arith) c.loop-i.invariant c.number_at.ensures
