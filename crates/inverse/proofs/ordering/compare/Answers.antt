use Rattle.std.proofs.Common.{rules}
use Rattle.float.specs.TotalOrder.{total_compare}
use Rattle.inverse.specs.Solutions.{compare}
use Rattle.inverse.proofs.Compared.{then_with_is}
use Rattle.inverse.proofs.ordering.compare.Goals as goal

pub returns : goal.returns
unfolding compare
returns c =
    let j = c.args.j in
    let k = c.args.k in
    let second = then_with_is c.total_cmp.result (total_compare j.a0 k.a0) c.then_with.result _ c.then_with.ensures (λ h. search rules) in
    let third = then_with_is c.then_with.result (total_compare j.a1 k.a1) c.then_with-2.result _ c.then_with-2.ensures (λ h. search rules) in
    rw (third, second, c.total_cmp.ensures, c.size.ensures, c.size-2.ensures)
