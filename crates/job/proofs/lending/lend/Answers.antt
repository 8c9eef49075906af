use Rattle.std.proofs.Common.{leb-true}
use Rattle.std.proofs.lemmas.Result.{err_from_is_err_and}
use Rattle.lists.proofs.Tests.{is}
use Rattle.chain.proofs.Passing.{demand_passed}
use Rattle.job.specs.JobPoses.{room, poses_of}
use Rattle.job.proofs.Copying.{copied_cleared}
use Rattle.job.proofs.lending.lend.Goals as goal

pub returns-in_err-demand : goal.returns-in_err-demand
unfolding room
returns-in_err-demand c =
    let p = err_from_is_err_and c.from_residual.result c.from_residual.ensures.1 in
    let e = is c.demand.ensures c.in_err-demand.was in record { checked = rw (p.1, p.2, e); lent = rw e }

pub returns : goal.returns
unfolding room poses_of
returns c =
    let e = demand_passed _ _ _ (is c.demand.ensures c.in_ok-demand.was) in record { checked = rw e; lent = rw e (copied_cleared _ _ _ _ _ _ (leb-true _ _ e) c.numbers_at.ensures c.clear_from.ensures) }
