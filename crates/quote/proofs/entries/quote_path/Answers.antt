use borrow.Author.Rules.{rules}
use mathlib.Core.Path.{◌≡◌, sym}
use Rattle.std.specs.Prelude.{Err}
use Rattle.quote.specs.declared.QuoteError.{QuoteError}
use Rattle.quote.specs.Quotation.{Quote}
use Rattle.quote.proofs.Checks.{quote_passed}
use Rattle.quote.proofs.Answers.{refused_so, checked_so}
use Rattle.quote.proofs.entries.quote_path.Goals as goal

pub returns-in_err-quote_check : goal.returns-in_err-quote_check
returns-in_err-quote_check c =
    let s : ◌≡◌ {A = Quote} c.from_residual.result (Err (QuoteError.Refused c.in_err-quote_check.field-0.0)) = search rules in
    let all = refused_so c.args.k.now c.args.tol c.args.poses.now c.args.joints.now c.args.scratch_joints.now c.args.scratch_tips.now (sym c.in_err-quote_check.ensures) s in
    record { answer = all.0; joints = all.1.0; tips = all.1.1.0; divided = all.1.1.1 }

pub invariant_of-given : goal.invariant_of-given
invariant_of-given c = let l = quote_passed _ _ _ _ _ _ (sym c.in_ok-quote_check.ensures) in record { poses_whole = l.1.0; joints_whole = l.1.1 }

pub invariant_of-cleared : goal.invariant_of-cleared
invariant_of-cleared c = record { few = (quote_passed _ _ _ _ _ _ (sym c.in_ok-quote_check.ensures)).0 }

pub returns : goal.returns
returns c = let all = checked_so c.args.k.now c.args.tol c.args.poses.now c.args.joints.now c.args.scratch_joints.now c.args.scratch_tips.now (sym c.in_ok-quote_check.ensures) c.cleared.ensures.answer c.cleared.ensures.joints c.cleared.ensures.tips in record { answer = all.0; joints = all.1.0; tips = all.1.1.0; divided = all.1.1.1 }
