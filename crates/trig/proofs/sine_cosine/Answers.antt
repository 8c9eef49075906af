-- `trig::sine_cosine` meets its contract. Assumes nothing.
use Rattle.std.proofs.Common.{◌≡◌, T, sym, ◌∙◌, subst, rules}
use Rattle.trig.specs.Waves.{PairRight, paired, sine_of, cosine_of, sine_float, cosine_float}
use Rattle.trig.proofs.Choices.{then_is}
use Rattle.trig.proofs.WaveLaws.{pair_answer, pair_served, pair_refused}
use Rattle.trig.proofs.sine_cosine.Goals as goal

pub returns : goal.returns
returns c =
    let x = c.args.x in
    let e =
    then_is c.then.result c.served.result _ (paired (sine_of x) (cosine_of x)) c.then.ensures.variant c.then.ensures.some
    (λ p h t. let s : p.sine ≡ sine_float x = search rules in let v : p.cosine ≡ cosine_float x = search rules in pair_served x p (sym c.served.ensures ∙ t) s v)
    (λ f. pair_refused x (sym c.served.ensures ∙ f)) in
    record { name = e; right = subst (PairRight x) (sym e) (pair_answer x ((subst T (sym c.well_formed.0.1) tt))) }
