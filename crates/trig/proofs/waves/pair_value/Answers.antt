-- `trig::waves::pair_value` meets its contract. Assumes nothing.
use Rattle.std.proofs.Common.{T, sym, ◌∙◌, subst}
use Rattle.trig.proofs.WaveError.{tame_size}
use Rattle.trig.proofs.WaveSteps.{wave_is, wave_is_first, sine_is_zero, sine_is, cosine_is_zero, cosine_is}
use Rattle.trig.proofs.waves.pair_value.Goals as goal

pub returns-then-x : goal.returns-then-x
returns-then-x c = (sine_is_zero c.args.x c.if-x.true, cosine_is_zero c.args.x c.if-x.true)

pub turned-requires : goal.turned-requires
turned-requires c = tame_size c.args.x ((subst T (sym c.well_formed.0.1) tt)) c.requires c.signed-a.result c.if-x.false c.signed-a.ensures

pub returns : goal.returns
returns c =
    let x = c.args.x in
    let e = c.turned.ensures in (
      c.signed.ensures ∙ sine_is x c.if-x.false c.signed-a.result c.waves-p.result.sine c.signed-a.ensures (wave_is_first c.signed-a.result _ _ _ c.waves-p.result.sine e.0 e.1 e.2 c.waves-p.ensures.0),
      cosine_is x c.if-x.false c.signed-a.result c.waves-p.result.cosine c.signed-a.ensures (wave_is 1 c.signed-a.result _ _ _ c.waves-p.result.cosine e.0 e.1 e.2 c.waves-p.ensures.1),
    )
