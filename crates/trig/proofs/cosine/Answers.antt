-- `trig::cosine` meets its contract. Assumes nothing.
use Rattle.std.proofs.Common.{◌≡◌, T, sym, ap, ◌∙◌, subst, rules}
use Rattle.std.specs.Prelude.{Some}
use Rattle.trig.specs.Waves.{CosineAnswer, cosine_of, cosine_float}
use Rattle.trig.proofs.Choices.{then_is}
use Rattle.trig.proofs.WaveLaws.{cosine_answer, cosine_served, cosine_refused}
use Rattle.trig.proofs.cosine.Goals as goal

pub returns : goal.returns
returns c =
    let x = c.args.x in
    let e =
    then_is c.then.result c.served.result _ (cosine_of x) c.then.ensures.variant c.then.ensures.some
    (λ y h t. let v : y ≡ cosine_float x = search rules in ap Some v ∙ cosine_served x (sym c.served.ensures ∙ t))
    (λ f. cosine_refused x (sym c.served.ensures ∙ f)) in
    record { name = e; right = subst (CosineAnswer x) (sym e) (cosine_answer x ((subst T (sym c.well_formed.0.1) tt))) }
