use Rattle.std.proofs.Common.{sym, ◌∙◌}
use Rattle.std.proofs.lemmas.Result.{err_from_is_err_and}
use Rattle.lists.proofs.Tests.{is}
use Rattle.chain.proofs.Passing.{demand_passed}
use Rattle.hirth.proofs.Exactly.{tolerance_first, refused_first, after_solution, told}
use Rattle.hirth.proofs.profile.choose_tooth.Goals as goal

pub returns-in_err-demand : goal.returns-in_err-demand
returns-in_err-demand c =
    let p = err_from_is_err_and c.from_residual.result c.from_residual.ensures.1 in
    let bad = rw c.tolerance_good.ensures at (is c.demand.ensures c.in_err-demand.was) in
    let all = told _ _ _ _ _ _ (rw (p.1, p.2) (tolerance_first _ _ _ _ _ bad)) in
    record { name = all.0; promised = all.1 }

pub returns-in_err-j : goal.returns-in_err-j
returns-in_err-j c =
    let p = err_from_is_err_and c.from_residual-in_err-j.result c.from_residual-in_err-j.ensures.1 in
    let good = demand_passed c.tolerance_good.result _ _ (is c.demand.ensures c.in_ok-demand.was) in
    let all = told _ _ _ _ _ _ (rw (p.1, p.2) (refused_first _ _ _ _ _ _ (is c.tolerance_good.ensures good) (is (rw c.of-ready.ensures at c.choose_ready.ensures) c.in_err-j.was))) in
    record { name = all.0; promised = all.1 }

pub returns : goal.returns
returns c =
    let good = demand_passed c.tolerance_good.result _ _ (is c.demand.ensures c.in_ok-demand.was) in
    let solution = after_solution _ _ _ _ _ _ (is c.tolerance_good.ensures good) (is (rw c.of-ready.ensures at c.choose_ready.ensures) c.in_ok-j.was) in
    let all = told _ _ _ _ _ _ (solution ∙ sym (rw c.of-ready.ensures at c.toothed.ensures)) in
    record { name = all.0; promised = all.1 }
