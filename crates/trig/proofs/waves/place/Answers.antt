-- `trig::waves::place` meets its contract. Assumes nothing.
use Rattle.std.proofs.Common.{◌∙◌}
use Rattle.trig.proofs.WaveSteps.{sign_even, sign_odd}
use Rattle.trig.proofs.waves.place.Goals as goal

pub returns-then-k-eq0 : goal.returns-then-k-eq0
returns-then-k-eq0 c = c.signed.ensures ∙ sign_even c.args.k c.args.below c.args.s c.args.c c.signed-y.result c.if-k-eq0.true c.signed-y.ensures

pub returns-else-k-eq0 : goal.returns-else-k-eq0
returns-else-k-eq0 c = c.signed-else-k-eq0.ensures ∙ sign_odd c.args.k c.args.below c.args.s c.args.c c.if-k-eq0.false
