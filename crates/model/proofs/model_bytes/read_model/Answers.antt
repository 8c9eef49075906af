use mathlib.Core.Path.{sym, ◌∙◌}
use Rattle.lists.proofs.Tests.{is}
use Rattle.std.proofs.lemmas.Result.{err_from_is_err_and}
use Rattle.model.specs.Model.{model_fields}
use Rattle.model.proofs.Links.{fields_refused}
use Rattle.model.proofs.model_bytes.read_model.Goals as goal

pub returns-in_err-link_fields : goal.returns-in_err-link_fields
unfolding model_fields
returns-in_err-link_fields c =
    let p = err_from_is_err_and c.from_residual.result c.from_residual.ensures.1 in
    rw (p.1, p.2)
    (sym
    (c.loop-link.invariant
    ∙ fields_refused _ c.in-Some.ensures.steps (is c.link_fields.ensures c.in_err-link_fields.was)))

pub returns : goal.returns
unfolding model_fields
returns c = sym (c.loop-link.invariant ∙ rw c.in-None.ensures.steps.0)
