-- `trig::waves::sine_value` meets its contract. Assumes nothing.
use Rattle.std.proofs.Common.{T, sym, ◌∙◌, subst}
use Rattle.trig.proofs.WaveError.{tame_size}
use Rattle.trig.proofs.WaveSteps.{wave_is, sine_is_zero, sine_is}
use Rattle.trig.proofs.waves.sine_value.Goals as goal

pub returns-then-x : goal.returns-then-x
returns-then-x c = sine_is_zero c.args.x c.if-x.true

pub turned-requires : goal.turned-requires
turned-requires c = tame_size c.args.x ((subst T (sym c.well_formed.0.1) tt)) c.requires c.signed-a.result c.if-x.false c.signed-a.ensures

pub returns : goal.returns
returns c =
    let e = c.turned.ensures in
    c.signed.ensures ∙ sine_is c.args.x c.if-x.false c.signed-a.result c.wave-y.result c.signed-a.ensures (wave_is 0 c.signed-a.result _ _ _ c.wave-y.result e.0 e.1 e.2 c.wave-y.ensures)
