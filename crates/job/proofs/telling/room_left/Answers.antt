use Rattle.std.proofs.Common.{◌≡◌, ℕ, rules, sym}
use Rattle.std.specs.Prelude.{None, Option}
use Rattle.job.proofs.Lines.{fitting_start, fitting_step, fitting_none, fitting_end, no_room, some_left, none_left}
use Rattle.job.proofs.telling.room_left.Goals as goal

pub returns-in_err-left : goal.returns-in_err-left
returns-in_err-left c =
    let e : ◌≡◌ {A = Option ℕ} c.from_residual.result None = search rules in
    let h = none_left c.checked_sub.ensures c.in_err-left.was in
    rw e (sym (no_room _ _ _ h))

pub loop-i-init : goal.loop-i-init
loop-i-init c =
    let h = some_left c.checked_sub.ensures c.in_ok-left.was in
    rw h.1 (fitting_start _ _ _ h.0)

pub returns-in_err-left-2 : goal.returns-in_err-left-2
returns-in_err-left-2 c =
    let e : ◌≡◌ {A = Option ℕ} c.from_residual-in_err-left-2.result None = search rules in
    let h = none_left c.checked_sub-in-loop-i.ensures c.in_err-left-2.was in
    rw e (sym (fitting_none c.loop-i.invariant c.loop-i-test.true c.width.ensures.width h))

pub loop-i-preserved : goal.loop-i-preserved
loop-i-preserved c =
    let h = some_left c.checked_sub-in-loop-i.ensures c.in_ok-left-2.was in
    rw h.1 (fitting_step c.loop-i.invariant c.loop-i-test.true c.width.ensures.width h.0)

pub returns : goal.returns
returns c = sym (fitting_end c.loop-i.invariant c.loop-i-test.false)
