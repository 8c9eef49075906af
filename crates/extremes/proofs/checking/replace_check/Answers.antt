use native.Mathlib.Omega.{arith}
use Rattle.lists.proofs.Tests.{is}
use Rattle.chain.proofs.Passing.{demand_passed}
use Rattle.extremes.proofs.Checks.{good_lengths}
use Rattle.extremes.proofs.checking.replace_check.Goals as goal

pub joints_in-j-requires : goal.joints_in-j-requires
joints_in-j-requires c =
    let five = (good_lengths _ _ _ _ (is c.replace_good.ensures (demand_passed c.replace_good.result _ _ (is c.demand.ensures c.in_ok-demand.was)))).1.0 in
    omega (arith, five)
