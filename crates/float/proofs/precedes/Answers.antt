use Rattle.std.proofs.Common.{sym, rules}
use Rattle.float.proofs.TotalOrder.{before_is}
use Rattle.float.proofs.precedes.Goals as goal

pub returns : goal.returns
returns c = rw (c.order_key-2.ensures, c.order_key.ensures) (sym (before_is _ _ (search rules) (search rules)))
