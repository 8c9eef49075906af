-- `trig::degrees::pair_in_degrees` meets its contract. Assumes nothing.
use Rattle.std.proofs.Common.{T, sym, subst}
use Rattle.trig.proofs.DegreeNear.{size_within}
use Rattle.trig.proofs.DegreeSteps.{degree_is, degree_first, sine_zero, sine_is, cosine_zero, cosine_is}
use Rattle.trig.proofs.degrees.pair_in_degrees.Goals as goal

pub returns-then-x : goal.returns-then-x
returns-then-x c = (sine_zero c.args.x c.if-x.true, cosine_zero c.args.x c.if-x.true)

pub reduced-requires : goal.reduced-requires
reduced-requires c = size_within c.args.x ((subst T (sym c.well_formed.0.1) tt)) c.requires c.signed-a.result c.if-x.false c.signed-a.ensures

pub returns : goal.returns
returns c =
    let x = c.args.x in
    let e = c.reduced.ensures in (
      sine_is x c.if-x.false c.signed-a.result c.waves-p.result.sine c.signed.result c.signed-a.ensures (degree_first c.signed-a.result _ _ _ c.waves-p.result.sine e.0 e.1 e.2 c.waves-p.ensures.0) c.signed.ensures,
      cosine_is x c.if-x.false c.signed-a.result c.waves-p.result.cosine c.signed-a.ensures (degree_is 1 c.signed-a.result _ _ _ c.waves-p.result.cosine e.0 e.1 e.2 c.waves-p.ensures.1),
    )
