use Rattle.std.proofs.Common.{arith, refl}
use Rattle.job.proofs.Written.{digits_start, digits_step, digits_end}
use Rattle.job.proofs.spelling.hexadecimal.Goals as goal

pub loop-i-init : goal.loop-i-init
loop-i-init c = digits_start refl

pub loop-i-preserved : goal.loop-i-preserved
loop-i-preserved c = digits_step (omega arith) c.loop-i.invariant c.digit.ensures

pub returns : goal.returns
returns c = digits_end c.loop-i-test.false c.loop-i.invariant
