use Rattle.std.proofs.Common.{◌-◌}
use Rattle.trig.proofs.tangent.+bisect.Given as goal

abbrev pub decreases-bisect : goal.decreases-bisect
decreases-bisect l = l.hi - l.lo
