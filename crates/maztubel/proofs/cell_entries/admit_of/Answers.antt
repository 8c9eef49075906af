use Rattle.std.proofs.Common.{◌≡◌, ℕ, Err, rules, ap, ◌∙◌}
use Rattle.std.specs.Prelude.{Result}
use Rattle.lists.proofs.Tests.{is}
use Rattle.refusal.specs.declared.Refusal.{Refusal}
use Rattle.chain.proofs.Passing.{demand_passed, demand_refused, read_refused, read_served}
use Rattle.cell.proofs.EveryRow.{in_rows}
use Rattle.maztubel.specs.CellEntries.{asked}
use Rattle.maztubel.proofs.CellsFor.{refused_by, admit_state, admit_lengths, admit_bytes, admit_chain}
use Rattle.maztubel.proofs.cell_entries.admit_of.Goals as goal

pub returns-in_err-state_check : goal.returns-in_err-state_check
returns-in_err-state_check c =
    let a = c.args in
    let e : ◌≡◌ {A = Result ℕ Refusal} c.from_residual.result (Err c.in_err-state_check.field-0.0) = search rules in
    let h = admit_state a.words.now a.numbers.now (asked a.chain.now a.chord a.axis a.poses.now a.joints.now a.out_poses.now a.out_joints.now) (is c.state_check.ensures c.in_err-state_check.was) in
    record { answer = e ∙ h.answer; words = h.words_so; numbers = h.numbers_so; poses = h.poses_so; joints = h.joints_so; rows = in_rows a.words.now a.numbers.now }

pub returns-in_err-demand : goal.returns-in_err-demand
returns-in_err-demand c =
    let a = c.args in
    let e : ◌≡◌ {A = Result ℕ Refusal} c.from_residual-in_err-demand.result (Err c.in_err-demand.field-0.0) = search rules in
    let d = demand_refused _ _ _ (is c.demand.ensures c.in_err-demand.was) in
    let h = admit_lengths a.words.now a.numbers.now (asked a.chain.now a.chord a.axis a.poses.now a.joints.now a.out_poses.now a.out_joints.now)
    (is c.state_check.ensures c.in_ok-state_check.was) (is c.four_whole-whole.ensures d.0) in
    record { answer = e ∙ ap refused_by d.1 ∙ h.answer; words = h.words_so; numbers = h.numbers_so; poses = h.poses_so; joints = h.joints_so; rows = in_rows a.words.now a.numbers.now }

pub returns-in_err-read_chain_into : goal.returns-in_err-read_chain_into
returns-in_err-read_chain_into c =
    let a = c.args in
    let e : ◌≡◌ {A = Result ℕ Refusal} c.from_residual-in_err-read_chain_into.result (Err c.in_err-read_chain_into.field-0.0) = search rules in
    let w = is c.four_whole-whole.ensures (demand_passed _ _ _ (is c.demand.ensures c.in_ok-demand.was)) in
    let h = admit_bytes a.words.now a.numbers.now (asked a.chain.now a.chord a.axis a.poses.now a.joints.now a.out_poses.now a.out_joints.now)
    (is c.state_check.ensures c.in_ok-state_check.was) w (read_refused _ c.read_chain_into.ensures.chain c.in_err-read_chain_into.was) in
    record { answer = e ∙ h.answer; words = h.words_so; numbers = h.numbers_so; poses = h.poses_so; joints = h.joints_so; rows = in_rows a.words.now a.numbers.now }

pub returns : goal.returns
returns c =
    let a = c.args in
    let s = c.admit.ensures in
    let h = admit_chain a.words.now a.numbers.now (asked a.chain.now a.chord a.axis a.poses.now a.joints.now a.out_poses.now a.out_joints.now)
    (read_served _ c.read_chain_into.ensures.chain c.in_ok-read_chain_into.was) s.answer s.words s.numbers s.poses s.joints in
    record { answer = h.answer; words = h.words_so; numbers = h.numbers_so; poses = h.poses_so; joints = h.joints_so; rows = in_rows a.words.now a.numbers.now }
