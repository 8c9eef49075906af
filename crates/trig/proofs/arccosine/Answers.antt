-- `trig::arccosine` meets its contract. Assumes nothing.
use Rattle.std.proofs.Common.{T, sym, ◌∙◌, subst}
use Rattle.trig.specs.Arccosine.{ArccosineAnswer}
use Rattle.trig.proofs.ArccosineLaws.{arccosine_answer, arccosine_served, arccosine_refused}
use Rattle.trig.proofs.arccosine.Goals as goal

pub returns-then-cosine_range : goal.returns-then-cosine_range
returns-then-cosine_range c =
    let e = arccosine_served c.args.c c.root-y.result c.arctangent.result (sym c.cosine_range.ensures ∙ c.if-cosine_range.true) c.root-y.ensures c.arctangent.ensures.name in record { name = e; right = (subst (ArccosineAnswer c.args.c) (sym e) (arccosine_answer c.args.c ((subst T (sym c.well_formed.0.1) tt)))) }

pub returns-else-cosine_range : goal.returns-else-cosine_range
returns-else-cosine_range c =
    let e = arccosine_refused c.args.c (sym c.cosine_range.ensures ∙ c.if-cosine_range.false) in record { name = e; right = (subst (ArccosineAnswer c.args.c) (sym e) (arccosine_answer c.args.c ((subst T (sym c.well_formed.0.1) tt)))) }
