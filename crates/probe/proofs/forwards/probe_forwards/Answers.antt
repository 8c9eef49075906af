use mathlib.Core.Path.{◌≡◌, sym, ap, ◌∙◌}
use Rattle.std.specs.Prelude.{Ok, Result, length, ◌/◌}
use Rattle.refusal.specs.declared.Refusal.{Refusal}
use Rattle.chain.specs.declared.Kinematics.{Kinematics}
use Rattle.chain.specs.declared.Prepared.{Prepared}
use Rattle.chain.specs.ChainBytes.{read_chain}
use Rattle.probe.specs.Forwards.{sums, sums_read}
use Rattle.probe.proofs.Sums.{sums_fold}
use Rattle.probe.proofs.forwards.probe_forwards.Goals as goal

pub returns : goal.returns
returns c =
    let a = c.args in
    let n = length a.joints.now / 5 in
    let e : read_chain a.chain.now ≡ Ok c.in-Ok.k = sym c.read_chain.ensures ∙ c.in-Ok.is in
    c.sums.ensures
    ∙ sums_fold c.prepare.result a.tool_length a.joints.now n
    ∙ ap (λ (p : Prepared). sums p a.joints.now a.tool_length n) c.prepare.ensures
    ∙ sym (ap (λ (r : Result Kinematics Refusal). sums_read r a.joints.now a.tool_length) e)
