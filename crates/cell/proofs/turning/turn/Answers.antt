use native.Mathlib.Omega.{arith}
use Rattle.std.proofs.Common.{◌≡◌, true, rules, ap, ◌∙◌, Err}
use Rattle.lists.proofs.Tests.{is}
use Rattle.refusal.specs.Numbers.{refusal}
use Rattle.refusal.specs.declared.Cause.{Cause}
use Rattle.refusal.specs.declared.Refusal.{Refusal}
use Rattle.chain.proofs.Passing.{demand_refused, demand_passed}
use Rattle.cell.specs.State.{state_good}
use Rattle.cell.specs.Turning.{Turned}
use Rattle.cell.proofs.States.{state_parts}
use Rattle.cell.proofs.Turns.{turn_refused, turn_nobody, turn_misfit, turn_served}
use Rattle.cell.proofs.EveryRow.{in_rows}
use Rattle.cell.proofs.turning.turn.Goals as goal

pub returns-in_err-demand : goal.returns-in_err-demand
returns-in_err-demand c =
    let s : ◌≡◌ {A = Turned} c.from_residual.result (Err c.in_err-demand.field-0.0) = search rules in
    let f = demand_refused c.state_good.result Cause.LengthsDiffer 0 (is c.demand.ensures c.in_err-demand.was) in
    let e : ◌≡◌ {A = Turned} c.from_residual.result (Err (refusal Cause.LengthsDiffer 0)) = s ∙ ap (λ (r : Refusal). Err r) f.1 in
    let h = turn_refused c.args.words.now c.args.numbers.now c.args.poses.now c.args.joints.now (is c.state_good.ensures f.0) in
    record { answer = e ∙ h.answer; words = rw e h.words_so; numbers = rw e h.numbers_so; poses = h.poses_so; joints = h.joints_so; rows = in_rows c.args.words.now c.args.numbers.now }

pub count_in-requires : goal.count_in-requires
count_in-requires c =
    let good : state_good c.args.words.now c.args.numbers.now ≡ true = search rules in
    (state_parts _ _ good).0

pub returns-then-count_in-eq0 : goal.returns-then-count_in-eq0
returns-then-count_in-eq0 c =
    let good : state_good c.args.words.now c.args.numbers.now ≡ true = search rules in
    let h = turn_nobody c.args.words.now c.args.numbers.now c.args.poses.now c.args.joints.now good (is c.count_in.ensures c.if-count_in-eq0.true) in
    record { answer = h.answer; words = h.words_so; numbers = h.numbers_so; poses = h.poses_so; joints = h.joints_so; rows = in_rows c.args.words.now c.args.numbers.now }

pub path_in-e-requires : goal.path_in-e-requires
path_in-e-requires c =
    let good : state_good c.args.words.now c.args.numbers.now ≡ true = search rules in
    let p = state_parts _ _ good in
    (omega (arith, p), omega (arith, p))

pub bounds-words-0 : goal.bounds-words-0
bounds-words-0 c =
    let good : state_good c.args.words.now c.args.numbers.now ≡ true = search rules in
    let p = state_parts _ _ good in
    omega (arith, p)

pub requeue-requires : goal.requeue-requires
requeue-requires c =
    let good : state_good c.args.words.now c.args.numbers.now ≡ true = search rules in
    let p = state_parts _ _ good in
    (p.0, p.1.0, omega (arith, c.count_in.ensures, c.if-count_in-eq0.false), p.1.1)

pub returns-in_err-demand-2 : goal.returns-in_err-demand-2
returns-in_err-demand-2 c =
    let good : state_good c.args.words.now c.args.numbers.now ≡ true = search rules in
    let s : ◌≡◌ {A = Turned} c.from_residual-in_err-demand-2.result (Err c.in_err-demand-2.field-0.0) = search rules in
    let f = demand_refused c.fits_in-fits.result Cause.LengthsDiffer 0 (is c.demand-2.ensures c.in_err-demand-2.was) in
    let e : ◌≡◌ {A = Turned} c.from_residual-in_err-demand-2.result (Err (refusal Cause.LengthsDiffer 0)) = s ∙ ap (λ (r : Refusal). Err r) f.1 in
    let h = turn_misfit c.args.words.now c.args.numbers.now c.args.poses.now c.args.joints.now good (λ z. absurd (omega (arith, z, c.count_in.ensures, c.if-count_in-eq0.false))) c.path_in-e.ensures (is c.fits_in-fits.ensures f.0) in
    record { answer = e ∙ h.answer; words = rw e h.words_so; numbers = rw e h.numbers_so; poses = h.poses_so; joints = h.joints_so; rows = in_rows c.args.words.now c.args.numbers.now }

pub returns : goal.returns
returns c =
    let good : state_good c.args.words.now c.args.numbers.now ≡ true = search rules in
    let fits = demand_passed c.fits_in-fits.result Cause.LengthsDiffer 0 (is c.demand-2.ensures c.in_ok-demand-2.was) in
    let h = turn_served c.args.words.now c.args.numbers.now c.args.poses.now c.args.joints.now good (λ z. absurd (omega (arith, z, c.count_in.ensures, c.if-count_in-eq0.false))) c.path_in-e.ensures (is c.fits_in-fits.ensures fits)
    c.serve-outcome.ensures.outcome c.serve-outcome.ensures.poses c.serve-outcome.ensures.joints c.requeue.ensures.words c.requeue.ensures.numbers in
    record { answer = h.answer; words = h.words_so; numbers = h.numbers_so; poses = h.poses_so; joints = h.joints_so; rows = in_rows c.args.words.now c.args.numbers.now }
