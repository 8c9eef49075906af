use native.Mathlib.Omega.{arith}
use Rattle.std.proofs.lemmas.Result.{err_from_is_err_and}
use Rattle.lists.proofs.Tests.{is}
use Rattle.extremes.specs.Entries.{ask_of}
use Rattle.extremes.proofs.Answers.{promised}
use Rattle.extremes.proofs.Checks.{ask_lengths}
use Rattle.extremes.proofs.entries.ask.Goals as goal

pub returns-in_err-ask_check : goal.returns-in_err-ask_check
unfolding ask_of
returns-in_err-ask_check c =
    let p = err_from_is_err_and c.from_residual.result c.from_residual.ensures.1 in
    let e = is c.ask_check.ensures c.in_err-ask_check.was in
    let all = promised c.args.joints.now c.args.summary.now c.args.rotary c.args.angle (rw (p.1, p.2, e)) in
    record { answer = all.0; read = all.1.0; skipped = all.1.1 }

pub invariant_of-path : goal.invariant_of-path
invariant_of-path c = let l = ask_lengths _ _ _ _ (is c.ask_check.ensures c.in_ok-ask_check.was) in record { grouped = omega (arith, l) }

pub returns : goal.returns
unfolding ask_of
returns c =
    let e = is c.ask_check.ensures c.in_ok-ask_check.was in
    let all = promised c.args.joints.now c.args.summary.now c.args.rotary c.args.angle (rw (e, c.first_above.ensures)) in
    record { answer = all.0; read = all.1.0; skipped = all.1.1 }
