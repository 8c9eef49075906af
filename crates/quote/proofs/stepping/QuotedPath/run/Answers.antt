use native.Mathlib.Omega.{arith}
use borrow.Author.Rules.{rules}
use mathlib.Core.Path.{◌≡◌, sym, ap, ◌∙◌}
use Rattle.std.specs.Prelude.{⊤, None, Option}
use Rattle.quote.specs.declared.Quoter.{Quoter}
use Rattle.quote.specs.QuotationSteps.{left_by}
use Rattle.quote.proofs.Going.{running_start, advance_needs, going_on, ran_many, going_end}
use Rattle.quote.proofs.stepping.QuotedPath.run.Goals as goal

pub loop-state-init : goal.loop-state-init
loop-state-init c = running_start _ _ _ _ _ _ _ c.begin-state.ensures c.args.self.now.some (omega arith)

pub advance-requires : goal.advance-requires
advance-requires c = let n = c.loop-state.invariant in advance_needs _ _ _ _ _ n c.args.self.now.few (sym c.goes_on.ensures ∙ c.loop-state-test.true)

pub loop-state-smaller : goal.loop-state-smaller
loop-state-smaller c =
    let on = ap (λ (o : Option ⊤). left_by o c.advance.new.m) c.in_ok-advance.was in
    (going_on _ _ _ _ _ c.loop-state.invariant (sym c.goes_on.ensures ∙ c.loop-state-test.true) c.advance.ensures.step c.advance.ensures.stack on c.advance.ensures.kept).1

pub loop-state-preserved : goal.loop-state-preserved
loop-state-preserved c =
    let on = ap (λ (o : Option ⊤). left_by o c.advance.new.m) c.in_ok-advance.was in
    (going_on _ _ _ _ _ c.loop-state.invariant (sym c.goes_on.ensures ∙ c.loop-state-test.true) c.advance.ensures.step c.advance.ensures.stack on c.advance.ensures.kept).0

pub returns-in_err-advance : goal.returns-in_err-advance
returns-in_err-advance c =
    let s : ◌≡◌ {A = Option Quoter} c.from_residual.result None = search rules in
    let many = ap (λ (o : Option ⊤). left_by o c.advance.new.m) c.in_err-advance.was in
    let all = ran_many _ _ _ _ _ c.loop-state.invariant (sym c.goes_on.ensures ∙ c.loop-state-test.true) c.advance.ensures.step c.advance.ensures.stack many s in
    record { answer = all.0; few = all.1 }

pub returns : goal.returns
returns c = let all = going_end _ _ _ _ _ c.loop-state.invariant (sym c.goes_on.ensures ∙ c.loop-state-test.false) in record { answer = all.0; few = all.1 }
