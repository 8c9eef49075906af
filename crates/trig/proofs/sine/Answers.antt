-- `trig::sine` meets its contract. Assumes nothing.
use Rattle.std.proofs.Common.{◌≡◌, T, sym, ap, ◌∙◌, subst, rules}
use Rattle.std.specs.Prelude.{Some}
use Rattle.trig.specs.Waves.{SineAnswer, sine_of, sine_float}
use Rattle.trig.proofs.Choices.{then_is}
use Rattle.trig.proofs.WaveLaws.{sine_answer, sine_served, sine_refused}
use Rattle.trig.proofs.sine.Goals as goal

pub returns : goal.returns
returns c =
    let x = c.args.x in
    let e =
    then_is c.then.result c.served.result _ (sine_of x) c.then.ensures.variant c.then.ensures.some
    (λ y h t. let v : y ≡ sine_float x = search rules in ap Some v ∙ sine_served x (sym c.served.ensures ∙ t))
    (λ f. sine_refused x (sym c.served.ensures ∙ f)) in
    record { name = e; right = subst (SineAnswer x) (sym e) (sine_answer x ((subst T (sym c.well_formed.0.1) tt))) }
