use Prim.Native.Nat.{◌<◌}
use native.Mathlib.Omega.{arith}
use mathlib.Core.Path.{◌≡◌, sym, ◌∙◌}
use lib.ListN.{length}
use lib.Ieee.{nan}
use borrow.Author.Tests.{not-true, not-false}
use Rattle.std.specs.Prelude.{None}
use Rattle.std.proofs.Common.{Err, rules, eqb-true}
use Rattle.lists.proofs.Tests.{is}
use Rattle.lists.proofs.Rows.{length_paired, get_or_paired}
use Rattle.chain.specs.Checked.{Checked}
use Rattle.chain.proofs.Passing.{demand_passed, demand_refused}
use Rattle.trig.specs.Arctangent.{arctangent_of}
use Rattle.maztubel.proofs.Laws.{any_told_pairs, written_or, number_lengths, number_refused, number_served, writing_start, writing_step, writing_end}
use Rattle.maztubel.proofs.of_pairs.Goals as goal

pub returns-in_err-demand-2-clause-number : goal.returns-in_err-demand-2-clause-number
returns-in_err-demand-2-clause-number c =
    let e : ◌≡◌ {A = Checked} c.from_residual-in_err-demand-2.result (Err c.in_err-demand-2.field-0.0) = search rules in
    let a = demand_passed _ _ _ (is c.demand.ensures c.in_ok-demand.was) in
    let d = demand_refused _ _ _ (is c.demand-2.ensures c.in_err-demand-2.was) in
    rw (e, d.1) (number_lengths _ _ (rw (a, d.0)))

pub returns-in_err-demand-3-clause-number : goal.returns-in_err-demand-3-clause-number
returns-in_err-demand-3-clause-number c =
    let e : ◌≡◌ {A = Checked} c.from_residual-in_err-demand-3.result (Err c.in_err-demand-3.field-0.0) = search rules in
    let a = demand_passed _ _ _ (is c.demand.ensures c.in_ok-demand.was) in
    let b = demand_passed _ _ _ (is c.demand-2.ensures c.in_ok-demand-2.was) in
    let d = demand_refused _ _ _ (is c.demand-3.ensures c.in_err-demand-3.was) in
    rw (e, d.1) (number_refused _ _ (rw (a, b)) (sym (any_told_pairs arctangent_of c.args.ys.now c.args.xs.now) ∙ is c.any_pair_refused.ensures (not-false _ d.0)))

pub loop-i-init : goal.loop-i-init
loop-i-init c =
    let e = eqb-true _ _ (demand_passed _ _ _ (is c.demand.ensures c.in_ok-demand.was)) in
    let f = eqb-true _ _ (demand_passed _ _ _ (is c.demand-2.ensures c.in_ok-demand-2.was)) in
    writing_start (length_paired arctangent_of _ _ e ∙ e) (sym f)

pub loop-i-preserved : goal.loop-i-preserved
loop-i-preserved c =
    let e : length c.args.ys.now ≡ length c.args.xs.now = eqb-true _ _ (demand_passed _ _ _ (is c.demand.ensures c.in_ok-demand.was)) in
    let n : c.loop-i.i < length c.args.xs.now = omega arith in
    let h : c.loop-i.i < length c.args.ys.now = omega (arith, e) in
    let told = get_or_paired arctangent_of c.args.ys.now c.args.xs.now c.loop-i.i nan nan None e h in
    writing_step None nan n c.loop-i.invariant (rw (told, ← c.arctangent.ensures.name) (c.unwrap_or.ensures ∙ written_or c.arctangent.result _))

pub returns : goal.returns
returns c =
    let a = demand_passed _ _ _ (is c.demand.ensures c.in_ok-demand.was) in
    let b = demand_passed _ _ _ (is c.demand-2.ensures c.in_ok-demand-2.was) in
    let none = not-true _ (demand_passed _ _ _ (is c.demand-3.ensures c.in_ok-demand-3.was)) in
    record {
      number = number_served _ _ (rw (a, b)) (sym (any_told_pairs arctangent_of c.args.ys.now c.args.xs.now) ∙ is c.any_pair_refused.ensures none);
      lent = writing_end (omega arith) c.loop-i.invariant;
    }
