use native.Mathlib.Omega.{arith}
use borrow.Author.Rules.{rules}
use lib.ListN.{length}
use mathlib.Core.Path.{◌≡◌, sym, ap, ◌∙◌}
use Rattle.std.specs.Prelude.{Err, Ok, Result}
use Rattle.turn.specs.declared.Stop.{Stop}
use Rattle.quote.specs.declared.QuoteError.{QuoteError}
use Rattle.quote.specs.Quotation.{Quote}
use Rattle.quote.proofs.Answers.{short_so, enough_so}
use Rattle.quote.proofs.entries.CheckedPath.within.Goals as goal

abbrev stopped : {A : Type 0} → Result A Stop → Quote
stopped (Err s) = Err (QuoteError.Stopped s)
stopped (Ok x) = Err (QuoteError.Stopped (Stop.NoSpace 0))

pub returns-in_err-waiting : goal.returns-in_err-waiting
returns-in_err-waiting c =
    let none = rw c.in_err-waiting.was at c.ok_or.ensures.ok_part in
    let few = rw none at c.first_chunk_mut.ensures.cases in
    let none_so = rw none at c.ok_or.ensures.value in
    let s : ◌≡◌ {A = Quote} c.from_residual.result (Err (QuoteError.Stopped c.in_err-waiting.field-0.0)) = search rules in
    let e = s ∙ ap stopped (sym c.in_err-waiting.was ∙ none_so) in
    rw e (short_so c.args.self.now.k.now c.args.self.now.tol c.args.self.now.given.poses.now c.args.self.now.given.joints.now (length c.args.stack.now) (length c.args.tips.now) (λ a b. omega (arith, a, few)))

pub returns-in_err-poses : goal.returns-in_err-poses
returns-in_err-poses c =
    let none = rw c.in_err-poses.was at c.ok_or-2.ensures.ok_part in
    let few = rw none at c.first_chunk_mut-2.ensures.cases in
    let none_so = rw none at c.ok_or-2.ensures.value in
    let s : ◌≡◌ {A = Quote} c.from_residual-in_err-poses.result (Err (QuoteError.Stopped c.in_err-poses.field-0.0)) = search rules in
    let e = s ∙ ap stopped (sym c.in_err-poses.was ∙ none_so) in
    rw e (short_so c.args.self.now.k.now c.args.self.now.tol c.args.self.now.given.poses.now c.args.self.now.given.joints.now (length c.args.stack.now) (length c.args.tips.now) (λ a b. omega (arith, b, few)))

pub returns : goal.returns
returns c =
    let some = rw c.in_ok-waiting.was at c.ok_or.ensures.ok_part in
    let all = (rw some at c.first_chunk_mut.ensures.cases).enough in
    let some_tips = rw c.in_ok-poses.was at c.ok_or-2.ensures.ok_part in
    let all_tips = (rw some_tips at c.first_chunk_mut-2.ensures.cases).enough in
    enough_so c.args.self.now.k.now c.args.self.now.tol c.args.self.now.given.poses.now c.args.self.now.given.joints.now (length c.args.stack.now) (length c.args.tips.now) all all_tips c.quotation.ensures
