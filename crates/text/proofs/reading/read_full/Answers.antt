use Rattle.std.proofs.Common.{arith}
use Rattle.text.proofs.reading.read_full.Goals as goal

pub loop-done-init : goal.loop-done-init
loop-done-init g c = omega arith
