-- `trig::of_degrees` meets its contract. Assumes nothing.
use Rattle.std.proofs.Common.{◌≡◌, T, sym, ◌∙◌, subst, rules}
use Rattle.trig.specs.Degrees.{TurnRight}
use Rattle.trig.specs.DegreeSteps.{degree_pair, sine_degrees, cosine_degrees}
use Rattle.trig.proofs.Choices.{then_is}
use Rattle.trig.proofs.DegreeLaws.{pair_answer, pair_served, pair_refused}
use Rattle.trig.proofs.of_degrees.Goals as goal

pub returns : goal.returns
returns c =
    let x = c.args.x in
    let e =
    then_is c.then.result c.turnable.result _ (degree_pair x) c.then.ensures.variant c.then.ensures.some
    (λ p h t. let s : p.sine ≡ sine_degrees x = search rules in let v : p.cosine ≡ cosine_degrees x = search rules in pair_served x p (sym c.turnable.ensures ∙ t) s v)
    (λ f. pair_refused x (sym c.turnable.ensures ∙ f)) in
    record { name = e; right = subst (TurnRight x) (sym e) (pair_answer x ((subst T (sym c.well_formed.0.1) tt))) }
