use Rattle.std.proofs.Common.{refl, rules, leb-false, leb-true}
use Rattle.std.proofs.lemmas.Result.{err_from_is_err_and}
use Rattle.lists.proofs.Tests.{is}
use Rattle.chain.proofs.Passing.{demand_passed, demand_refused}
use Rattle.job.proofs.Texts.{too_short, refused_fits, refused_put}
use Rattle.job.proofs.Written.{fits_first, fits_next, put_then}
use Rattle.job.proofs.telling.refused_text.Goals as goal

pub returns-in_err-demand : goal.returns-in_err-demand
returns-in_err-demand c =
    let p = err_from_is_err_and c.from_residual.result c.from_residual.ensures.1 in
    let d = demand_refused _ _ _ (is c.demand.ensures c.in_err-demand.was) in
    let all = too_short _ c.args.out.now (rw c.refused_length.ensures at (leb-false _ _ d.0)) in
    record { told = rw (p.1, p.2, d.1) all.0; lent = all.1 }

pub put_labelled-requires : goal.put_labelled-requires
put_labelled-requires c =
    let e = leb-true _ _ (demand_passed _ _ _ (is c.demand.ensures c.in_ok-demand.was)) in
    rw c.number.ensures (fits_first _ (refused_fits c.args.cause c.args.pose refl c.refused_length.ensures e))

pub put_pose-requires : goal.put_pose-requires
put_pose-requires c =
    let e = leb-true _ _ (demand_passed _ _ _ (is c.demand.ensures c.in_ok-demand.was)) in
    fits_first _ (fits_next (rw c.number.ensures at c.put_labelled.ensures) (refused_fits c.args.cause c.args.pose refl c.refused_length.ensures e))

pub put-requires : goal.put-requires
put-requires c =
    let e = leb-true _ _ (demand_passed _ _ _ (is c.demand.ensures c.in_ok-demand.was)) in
    fits_next c.put_pose.ensures (fits_next (rw c.number.ensures at c.put_labelled.ensures) (refused_fits c.args.cause c.args.pose refl c.refused_length.ensures e))

pub returns : goal.returns
returns c =
    let e = leb-true _ _ (demand_passed _ _ _ (is c.demand.ensures c.in_ok-demand.was)) in
    let all = refused_put c.args.cause c.args.pose refl c.refused_length.ensures e (put_then (rw c.number.ensures at c.put_labelled.ensures) (put_then c.put_pose.ensures c.put.ensures)) in
    let lent = all.1 in
    record { told = all.0; lent = search rules }
