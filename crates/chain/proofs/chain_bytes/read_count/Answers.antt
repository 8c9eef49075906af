use Rattle.std.proofs.Common.{arith}
use Rattle.lists.proofs.Tests.{is, is_after_all}
use Rattle.std.proofs.lemmas.Bool.{eqb-true, not_from_true}
use Rattle.chain.proofs.Bytes.{at_least_one}
use Rattle.chain.proofs.Passing.{demand_passed}
use Rattle.chain.proofs.chain_bytes.read_count.Goals as goal

pub invariant_of-chain : goal.invariant_of-chain
invariant_of-chain c =
    let h = at_least_one _ (is_after_all c.one_or_two.ensures (not_from_true _ c.if-not-one_or_two.false)) in
    let e = eqb-true _ _ (demand_passed _ _ _ (is c.demand.ensures c.in_ok-demand.was)) in
    record { whole = (h, c.requires.0, omega (arith, e)) }
