use Rattle.std.proofs.Common.{arith}
use Rattle.std.proofs.lemmas.Result.{err_from_is_err_and}
use Rattle.lists.proofs.Tests.{is}
use Rattle.chain.proofs.Passing.{demand_passed}
use Rattle.job.specs.JobPoses.{poses_check, job_poses}
use Rattle.job.proofs.JobWithin.{within}
use Rattle.job.proofs.lending.job_poses.Goals as goal

pub returns-in_err-demand : goal.returns-in_err-demand
unfolding poses_check job_poses
returns-in_err-demand c =
    let p = err_from_is_err_and c.from_residual.result c.from_residual.ensures.1 in
    let e = is c.demand.ensures c.in_err-demand.was in record { checked = rw (p.1, p.2, e); lent = rw e }

pub returns-in_err-j : goal.returns-in_err-j
unfolding poses_check job_poses
returns-in_err-j c =
    let p = err_from_is_err_and c.from_residual-in_err-j.result c.from_residual-in_err-j.ensures.1 in
    let e = demand_passed _ _ _ (is c.demand.ensures c.in_ok-demand.was) in
    let f = is c.read_job.ensures c.in_err-j.was in record { checked = rw (p.1, p.2, e, f); lent = rw (e, f) }

pub lend-requires : goal.lend-requires
lend-requires c =
    let h = (within _ _ (is c.read_job.ensures c.in_ok-j.was)).poses_inside in
    omega (arith, h)

pub returns : goal.returns
unfolding poses_check job_poses
returns c =
    let e = demand_passed _ _ _ (is c.demand.ensures c.in_ok-demand.was) in
    let f = is c.read_job.ensures c.in_ok-j.was in record { checked = rw (e, f) c.lend.ensures.checked; lent = rw (e, f) c.lend.ensures.lent }
