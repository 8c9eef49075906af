use Rattle.std.proofs.Common.{◌≡◌, Err, rules, ap, ◌∙◌}
use Rattle.lists.proofs.Tests.{is}
use Rattle.chain.proofs.Passing.{demand_passed, demand_refused, read_refused, read_served}
use Rattle.maztubel.proofs.WritesFor.{refused_by, write_lengths, write_bytes, write_chain}
use Rattle.maztubel.proofs.write_entries.write_of.Goals as goal

pub returns-in_err-demand : goal.returns-in_err-demand
returns-in_err-demand c =
    let a = c.args in
    let e : c.from_residual.result ≡ Err c.in_err-demand.field-0.0 = search rules in
    let d = demand_refused _ _ _ (is c.demand.ensures c.in_err-demand.was) in
    let all = write_lengths a.chain.now a.poses.now a.cone a.tol a.job.now d.0 (e ∙ ap refused_by d.1) in
    record { answer = all.0; lent = all.1.0; promise = all.1.1 }

pub returns-in_err-read_chain_into : goal.returns-in_err-read_chain_into
returns-in_err-read_chain_into c =
    let a = c.args in
    let e : c.from_residual-in_err-read_chain_into.result ≡ Err c.in_err-read_chain_into.field-0.0 = search rules in
    let w = demand_passed _ _ _ (is c.demand.ensures c.in_ok-demand.was) in
    let all = write_bytes a.chain.now a.poses.now a.cone a.tol a.job.now w (read_refused _ c.read_chain_into.ensures.chain c.in_err-read_chain_into.was) in
    record { answer = rw e all.0; lent = all.1.0; promise = all.1.1 }

pub returns : goal.returns
returns c =
    let a = c.args in
    let w = demand_passed _ _ _ (is c.demand.ensures c.in_ok-demand.was) in
    let s = c.write_job.ensures in
    let all = write_chain a.chain.now a.poses.now a.cone a.tol a.job.now w (read_served _ c.read_chain_into.ensures.chain c.in_ok-read_chain_into.was) (s.answer, (s.lent, (s.read, s.again))) in
    record { answer = all.0; lent = all.1.0; promise = all.1.1 }
