-- `trig::arctangent` meets its contract. Assumes nothing.
use Rattle.std.proofs.Common.{◌≡◌, Bool, ◌&&◌, T, sym, refl, ap, ◌∙◌, subst, rules}
use Rattle.std.proofs.lemmas.Bool.{and_parts}
use lib.Ieee.Scale.{finite}
use Rattle.trig.specs.Arctangent.{ArctangentAnswer, arctangent_of, angle_float}
use Rattle.trig.proofs.Choices.{then_is}
use Rattle.trig.proofs.ArctangentLaws.{arctangent_answer, arctangent_both, arctangent_refused}
use Rattle.trig.proofs.arctangent.Goals as goal
use Rattle.trig.proofs.arctangent.Goals.{then-finite, else-finite}

pub returns : goal.returns
returns c =
    let y = c.args.y in
    let x = c.args.x in
    let both : c.if-finite.then ≡ (finite y && finite x) = elim c.if-finite.branch [
      | then-finite w ↦ w.then-is ∙ w.finite-then-finite.ensures ∙ ap (λ (b : Bool). b && finite x) (sym w.if-finite.true ∙ c.finite.ensures)
      | else-finite w ↦ w.then-is ∙ w.if-finite.false ∙ ap (λ (b : Bool). b && finite x) (sym w.if-finite.false ∙ c.finite.ensures)
    ] in
    let e =
    then_is c.then.result c.if-finite.then _ (arctangent_of y x) c.then.ensures.variant c.then.ensures.some
    (λ r h t. let v : r ≡ angle_float y x = search rules in let p = and_parts (finite y) (finite x) (sym both ∙ t) in arctangent_both y x r p.0 refl p.1 refl v)
    (λ f. arctangent_refused y x (sym both ∙ f)) in
    record { name = e; right = subst (ArctangentAnswer y x) (sym e) (arctangent_answer y x ((subst T (sym c.well_formed.0.1) tt)) ((subst T (sym c.well_formed.1.0.1) tt))) }
