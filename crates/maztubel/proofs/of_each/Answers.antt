use native.Mathlib.Omega.{arith}
use mathlib.Core.Path.{◌≡◌, sym, ◌∙◌}
use lib.ListN.{length-map}
use lib.Ieee.{nan}
use borrow.Author.Tests.{not-true, not-false}
use Rattle.std.specs.Prelude.{None}
use Rattle.std.proofs.Common.{Err, rules, eqb-true}
use Rattle.lists.proofs.Tests.{is}
use Rattle.chain.specs.Checked.{Checked}
use Rattle.chain.proofs.Passing.{demand_passed, demand_refused}
use Rattle.maztubel.proofs.Laws.{told_map, written_or, any_told, number_refused, number_served, writing_start, writing_step, writing_end}
use Rattle.maztubel.proofs.of_each.Goals as goal

pub returns-in_err-demand-2-clause-number : goal.returns-in_err-demand-2-clause-number
returns-in_err-demand-2-clause-number g c =
    let e : ◌≡◌ {A = Checked} c.from_residual-in_err-demand-2.result (Err c.in_err-demand-2.field-0.0) = search rules in
    let same = demand_passed _ _ _ (is c.demand.ensures c.in_ok-demand.was) in
    let d = demand_refused _ _ _ (is c.demand-2.ensures c.in_err-demand-2.was) in
    rw (e, d.1) (number_refused _ _ same (sym (any_told _ c.args.xs.now) ∙ is c.any_refused.ensures (not-false _ d.0)))

pub loop-i-init : goal.loop-i-init
loop-i-init g c = writing_start (simp length-map) (sym (eqb-true _ _ (demand_passed _ _ _ (is c.demand.ensures c.in_ok-demand.was))))

pub loop-i-preserved : goal.loop-i-preserved
loop-i-preserved g c =
    let told = told_map g.F.Answered.answer c.args.xs.now c.loop-i.i nan None (omega arith) in
    writing_step None nan (omega arith) c.loop-i.invariant (rw (← told, ← c.answer.ensures) (c.unwrap_or.ensures ∙ written_or c.answer.result _))

pub returns : goal.returns
returns g c =
    let same = demand_passed _ _ _ (is c.demand.ensures c.in_ok-demand.was) in
    let none = not-true _ (demand_passed _ _ _ (is c.demand-2.ensures c.in_ok-demand-2.was)) in
    record {
      number = number_served _ _ same (sym (any_told _ c.args.xs.now) ∙ is c.any_refused.ensures none);
      lent = writing_end (omega arith) c.loop-i.invariant;
    }
