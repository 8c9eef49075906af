use borrow.Author.Tests.{not-true, not-false}
use mathlib.Core.Path.{sym, ◌∙◌}
use Rattle.path.proofs.Stops.{lock_stands, refusal_stands, exact_taken}
use Rattle.std.proofs.lemmas.Bool.{not_from_true}
use Rattle.std.proofs.lemmas.Bool.{not_from_false}
use Rattle.path.proofs.posing.locked_or_exact.Goals as goal

pub returns-then-not-leaves_limits : goal.returns-then-not-leaves_limits
returns-then-not-leaves_limits c =
    c.cone_solution-locked.ensures
    ∙ sym (lock_stands _ _ (not-true _ (rw (c.leaves_limits.ensures, c.cone_solution-locked.ensures) at (not_from_false _ c.if-not-leaves_limits.true))))

pub returns-then-succeeds : goal.returns-then-succeeds
returns-then-succeeds c =
    c.exact_pose-exact.ensures
    ∙ sym (exact_taken _ _
    (not-false _ (rw (c.leaves_limits.ensures, c.cone_solution-locked.ensures) at (not_from_true _ c.if-not-leaves_limits.false)))
    (rw (c.succeeds.ensures, c.exact_pose-exact.ensures) at c.if-succeeds.true))

pub returns : goal.returns
returns c =
    c.cone_solution-locked.ensures
    ∙ sym (refusal_stands _ _ (rw (c.succeeds.ensures, c.exact_pose-exact.ensures) at c.if-succeeds.false))
