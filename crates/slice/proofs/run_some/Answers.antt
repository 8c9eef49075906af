use mathlib.Core.Path.{◌≡◌, ◌∙◌}
use borrow.Author.Rules.{rules}
use Rattle.slice.proofs.Slices.{slicing_start, slicing_runs, slicing_on, slicing_stopped, slicing_done, slicing_out}
use Rattle.slice.proofs.run_some.Goals as goal

pub loop-init : goal.loop-init
loop-init c = slicing_start _ _ _ _ _ c.requires

pub returns-then-out-state : goal.returns-then-out-state
returns-then-out-state c =
    let h = slicing_done _ _ _ _ _ c.loop.invariant c.if-out-state.true in
    record { turn = h.turn_is; lent = h.lent }

pub advance-requires : goal.advance-requires
advance-requires c = slicing_runs _ _ _ _ _ c.loop.invariant c.if-out-state.false

pub returns-in_err-state : goal.returns-in_err-state
returns-in_err-state c =
    let e : c.from_residual.result ≡ c.advance.result = search rules in
    let h = slicing_stopped _ _ _ _ _ c.loop.invariant c.loop-test.true c.if-out-state.false c.advance.ensures.turn c.advance.ensures.lent _ c.in_err-state.was in
    record { turn = e ∙ h.turn_is; lent = h.lent }

pub loop-preserved : goal.loop-preserved
loop-preserved c =
    slicing_on _ _ _ _ _ c.loop.invariant c.loop-test.true c.if-out-state.false c.advance.ensures.turn c.advance.ensures.lent c.in_ok-state.was

pub returns : goal.returns
returns c =
    let h = slicing_out _ _ _ _ _ c.loop.invariant c.loop-test.false in
    record { turn = h.turn_is; lent = h.lent }
