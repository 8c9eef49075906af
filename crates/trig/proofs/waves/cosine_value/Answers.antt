-- `trig::waves::cosine_value` meets its contract. Assumes nothing.
use Rattle.std.proofs.Common.{T, sym, subst, ◌∙◌}
use Rattle.trig.proofs.WaveError.{tame_size}
use Rattle.trig.proofs.WaveSteps.{size_chosen, wave_is, cosine_is_zero, cosine_is}
use Rattle.trig.proofs.waves.cosine_value.Goals as goal

pub returns-then-x : goal.returns-then-x
returns-then-x c = cosine_is_zero c.args.x c.if-x.true

pub turned-requires : goal.turned-requires
turned-requires c = tame_size c.args.x ((subst T (sym c.well_formed.0.1) tt)) c.requires c.size.result c.if-x.false (c.size.ensures ∙ size_chosen c.args.x c.if-x.false)

pub returns : goal.returns
returns c =
    let e = c.turned.ensures in
    cosine_is c.args.x c.if-x.false c.size.result c.wave.result (c.size.ensures ∙ size_chosen c.args.x c.if-x.false) (wave_is 1 c.size.result _ _ _ c.wave.result e.0 e.1 e.2 c.wave.ensures)
