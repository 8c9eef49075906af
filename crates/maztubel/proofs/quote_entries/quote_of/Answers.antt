use Rattle.std.proofs.Common.{◌≡◌, Err, rules, ap, ◌∙◌}
use Rattle.quote.specs.declared.QuoteError.{QuoteError}
use Rattle.quote.specs.Quotation.{Quote}
use Rattle.lists.proofs.Tests.{is}
use Rattle.chain.proofs.Passing.{demand_passed, demand_refused, read_refused, read_served}
use Rattle.maztubel.proofs.QuotesFor.{refused_by, quote_lengths, quote_bytes, quote_chain}
use Rattle.maztubel.proofs.quote_entries.quote_of.Goals as goal

pub returns-in_err-demand : goal.returns-in_err-demand
returns-in_err-demand c =
    let a = c.args in
    let e : ◌≡◌ {A = Quote} c.from_residual.result (Err (QuoteError.Refused c.in_err-demand.field-0.0)) = search rules in
    let d = demand_refused _ _ _ (is c.demand.ensures c.in_err-demand.was) in
    let all = quote_lengths a.chain.now a.tol a.poses.now a.joints.now a.scratch_joints.now a.scratch_tips.now (is c.quote_whole-whole.ensures d.0) (e ∙ ap refused_by d.1) in
    record { answer = all.0; joints = all.1.0; tips = all.1.1 }

pub returns-in_err-read_chain_into : goal.returns-in_err-read_chain_into
returns-in_err-read_chain_into c =
    let a = c.args in
    let e : ◌≡◌ {A = Quote} c.from_residual-in_err-read_chain_into.result (Err (QuoteError.Refused c.in_err-read_chain_into.field-0.0)) = search rules in
    let w = is c.quote_whole-whole.ensures (demand_passed _ _ _ (is c.demand.ensures c.in_ok-demand.was)) in
    let all = quote_bytes a.chain.now a.tol a.poses.now a.joints.now a.scratch_joints.now a.scratch_tips.now w (read_refused _ c.read_chain_into.ensures.chain c.in_err-read_chain_into.was) e in
    record { answer = all.0; joints = all.1.0; tips = all.1.1 }

pub returns : goal.returns
returns c =
    let a = c.args in
    let w = is c.quote_whole-whole.ensures (demand_passed _ _ _ (is c.demand.ensures c.in_ok-demand.was)) in
    let s = c.quote_path.ensures in
    let all = quote_chain a.chain.now a.tol a.poses.now a.joints.now a.scratch_joints.now a.scratch_tips.now w (read_served _ c.read_chain_into.ensures.chain c.in_ok-read_chain_into.was) s.answer s.joints s.tips in
    record { answer = all.0; joints = all.1.0; tips = all.1.1 }
