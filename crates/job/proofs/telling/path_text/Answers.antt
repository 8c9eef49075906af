use Rattle.std.proofs.Common.{refl, rules}
use Rattle.std.proofs.lemmas.Result.{err_from_is_err_and}
use Rattle.lists.proofs.Tests.{is}
use Rattle.chain.proofs.Passing.{demand_passed, demand_refused}
use Rattle.job.proofs.Texts.{path_short, path_fits, path_put}
use Rattle.job.proofs.Written.{fits_first, fits_next, put_then}
use Rattle.job.proofs.telling.path_text.Goals as goal

pub returns-in_err-demand : goal.returns-in_err-demand
returns-in_err-demand c =
    let p = err_from_is_err_and c.from_residual.result c.from_residual.ensures.1 in
    let d = demand_refused _ _ _ (is c.demand.ensures c.in_err-demand.was) in
    let all = path_short c.args.f c.args.joints.now c.args.out.now (rw c.head_length-used.ensures at (is c.room_left-left.ensures (is c.is_some.ensures d.0))) in
    record { told = rw (p.1, p.2, d.1) all.0; lent = all.1 }

pub put_head-requires : goal.put_head-requires
put_head-requires c =
    let e = demand_passed _ _ _ (is c.demand.ensures c.in_ok-demand.was) in
    fits_first _ (path_fits c.args.f c.args.joints.now refl (rw c.head_length-used.ensures at (is c.room_left-left.ensures (is c.is_some.ensures e))))

pub put_lines-requires : goal.put_lines-requires
put_lines-requires c =
    let e = demand_passed _ _ _ (is c.demand.ensures c.in_ok-demand.was) in
    fits_next c.put_head.ensures (path_fits c.args.f c.args.joints.now refl (rw c.head_length-used.ensures at (is c.room_left-left.ensures (is c.is_some.ensures e))))

pub returns : goal.returns
returns c =
    let e = demand_passed _ _ _ (is c.demand.ensures c.in_ok-demand.was) in
    let all = path_put c.args.f c.args.joints.now refl (rw c.head_length-used.ensures at (is c.room_left-left.ensures (is c.is_some.ensures e))) (put_then c.put_head.ensures c.put_lines.ensures) in
    let lent = all.1 in
    record { told = all.0; lent = search rules }
