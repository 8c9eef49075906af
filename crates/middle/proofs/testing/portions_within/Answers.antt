use mathlib.Core.Path.{◌∙◌}
use Rattle.lists.proofs.Tests.{is}
use Rattle.middle.proofs.Portions.{by_quarters, by_middle, not_by_middle}
use Rattle.middle.proofs.testing.portions_within.Goals as goal

pub returns-then-not-tol : goal.returns-then-not-tol
returns-then-not-tol c =
    by_middle _ _ _ _ _ _ _ c.requires (is c.middle_within.ensures c.if-middle_within.true) c.if-not-tol.true

pub returns-else-not-tol : goal.returns-else-not-tol
returns-else-not-tol c =
    by_quarters _ _ _ _ _ _ _ c.requires (is c.middle_within.ensures c.if-middle_within.true) c.if-not-tol.false c.quarters_within.ensures

pub returns-else-middle_within : goal.returns-else-middle_within
returns-else-middle_within c =
    c.middle_within.ensures ∙ not_by_middle _ _ _ _ _ _ _ c.requires (is c.middle_within.ensures c.if-middle_within.false)
