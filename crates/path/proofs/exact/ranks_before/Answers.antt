use Rattle.std.proofs.Common.{rules}
use Rattle.float.specs.TotalOrder.{total_compare}
use Rattle.inverse.specs.Solutions.{compare}
use Rattle.inverse.proofs.Compared.{then_with_is, first_of_two, less_is}
use Rattle.path.specs.Exact.{ranks_before}
use Rattle.path.proofs.exact.ranks_before.Goals as goal

pub returns : goal.returns
unfolding ranks_before total_compare
returns c =
    let r = c.args.r in
    let q = c.args.q in
    let both = then_with_is c.total_cmp.result (compare r.joints q.joints) c.then_with.result _ c.then_with.ensures (λ h. search rules) in
    rw (c.is_lt.ensures, both, c.total_cmp.ensures, first_of_two _ _ _, less_is _ _)
