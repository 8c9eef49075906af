-- `trig::waves::signed` meets its contract. Assumes nothing.
use Rattle.std.proofs.Common.{Bool, cond, sym, ap}
use lib.Ieee.{neg}
use Rattle.trig.proofs.waves.signed.Goals as goal

pub returns-then-s : goal.returns-then-s
returns-then-s c = sym (ap (λ (t : Bool). cond t (neg c.args.y) c.args.y) c.if-s.true)
