use native.Mathlib.Omega.{arith}
use Rattle.std.proofs.Common.{◌≡◌, ℕ, rules, ap, ◌∙◌, Err}
use Rattle.std.specs.Prelude.{Result}
use Rattle.lists.proofs.Tests.{is}
use Rattle.refusal.specs.Numbers.{refusal}
use Rattle.refusal.specs.declared.Cause.{Cause}
use Rattle.refusal.specs.declared.Refusal.{Refusal}
use Rattle.cell.specs.State.{buffers}
use Rattle.cell.specs.Asking.{free_in}
use Rattle.cell.specs.Admitting.{inputs}
use Rattle.cell.proofs.States.{state_passed}
use Rattle.cell.proofs.Admits.{admit_passed, admit_lengths, admit_refused, admit_full, admit_entered}
use Rattle.cell.proofs.admitting.admit.Goals as goal

pub returns-in_err-admit_check : goal.returns-in_err-admit_check
returns-in_err-admit_check c =
    let a = c.args in
    let s : ◌≡◌ {A = Result ℕ Refusal} c.from_residual.result (Err c.in_err-admit_check.field-0.0) = search rules in
    let h = admit_refused a.words.now a.numbers.now (inputs a.k.now a.chord a.axis a.given.now a.solved.now) (buffers a.poses.now a.joints.now) (is c.admit_check.ensures c.in_err-admit_check.was) in
    record { answer = s ∙ h.answer; words = h.words_so; numbers = h.numbers_so; poses = h.poses_so; joints = h.joints_so }

pub returns-then-space_in-given : goal.returns-then-space_in-given
returns-then-space_in-given c =
    let a = c.args in
    let s : ◌≡◌ {A = Refusal} c.new.result (refusal Cause.NoSpace 0) = c.new.ensures in
    let h = admit_full a.words.now a.numbers.now (inputs a.k.now a.chord a.axis a.given.now a.solved.now) (buffers a.poses.now a.joints.now) (is c.admit_check.ensures c.in_ok-admit_check.was)
    (rw c.space_in.ensures at c.if-space_in-given.true) (c.fill.ensures.after (λ y e. e)) (c.fill-then-space_in-given.ensures.after (λ y e. e)) in
    record { answer = rw s h.answer; words = h.words_so; numbers = h.numbers_so; poses = h.poses_so; joints = h.joints_so }

pub enter-e-requires : goal.enter-e-requires
enter-e-requires c =
    let a = c.args in
    let l = admit_lengths a.words.now a.numbers.now (inputs a.k.now a.chord a.axis a.given.now a.solved.now) (buffers a.poses.now a.joints.now) (is c.admit_check.ensures c.in_ok-admit_check.was) in
    (l.0, l.1, rw c.space_in.ensures at c.if-space_in-given.false)

pub count_in-requires : goal.count_in-requires
count_in-requires c =
    let a = c.args in
    let q = admit_passed a.words.now a.numbers.now (inputs a.k.now a.chord a.axis a.given.now a.solved.now) (buffers a.poses.now a.joints.now) (is c.admit_check.ensures c.in_ok-admit_check.was) in
    (state_passed _ _ q.0).0

pub free_number-number-requires : goal.free_number-number-requires
free_number-number-requires c =
    let a = c.args in
    let q = admit_passed a.words.now a.numbers.now (inputs a.k.now a.chord a.axis a.given.now a.solved.now) (buffers a.poses.now a.joints.now) (is c.admit_check.ensures c.in_ok-admit_check.was) in
    let p = state_passed _ _ q.0 in
    omega (arith, p, c.count_in.ensures)

pub join-requires : goal.join-requires
join-requires c =
    let a = c.args in
    let q = admit_passed a.words.now a.numbers.now (inputs a.k.now a.chord a.axis a.given.now a.solved.now) (buffers a.poses.now a.joints.now) (is c.admit_check.ensures c.in_ok-admit_check.was) in
    let p = state_passed _ _ q.0 in
    (p.0, p.1.0, p.1.1)

pub returns : goal.returns
returns c =
    let a = c.args in
    let h = admit_entered a.words.now a.numbers.now (inputs a.k.now a.chord a.axis a.given.now a.solved.now) (buffers a.poses.now a.joints.now) (is c.admit_check.ensures c.in_ok-admit_check.was)
    (rw c.space_in.ensures at c.if-space_in-given.false) c.enter-e.ensures.entry c.enter-e.ensures.poses c.enter-e.ensures.joints
    (c.free_number-number.ensures ∙ ap (λ (n : ℕ). free_in n a.words.now) c.count_in.ensures) c.join.ensures.words c.join.ensures.numbers in
    record { answer = h.answer; words = h.words_so; numbers = h.numbers_so; poses = h.poses_so; joints = h.joints_so }
