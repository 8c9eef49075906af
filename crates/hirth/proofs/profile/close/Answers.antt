use Rattle.std.proofs.Common.{sym}
use Rattle.hirth.specs.Profile.{close}
use Rattle.hirth.proofs.profile.close.Goals as goal

pub returns-then-surely_close : goal.returns-then-surely_close
returns-then-surely_close c = sym (c.surely_close.ensures c.if-surely_close.true)

pub returns : goal.returns
unfolding close
returns c = rw c.angle_between_deg.ensures
