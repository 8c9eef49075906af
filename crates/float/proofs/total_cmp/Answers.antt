use Rattle.std.proofs.Common.{◌∙◌, rules}
use Rattle.float.proofs.TotalOrder.{compare_is}
use Rattle.float.proofs.total_cmp.Goals as goal

pub returns : goal.returns
returns c = c.cmp.ensures ∙ rw (c.order_key-2.ensures, c.order_key.ensures) (compare_is _ _ (search rules) (search rules))
