-- `geometry::normal::with_length` meets its contract. Assumes nothing.
use Rattle.std.proofs.Common.{◌≡◌, Bool, true, false, cond, not, ◌&&◌, sym, refl, ap, ◌∙◌, true≢false, rules}
use Rattle.std.specs.Prelude.{Some, None}
use Rattle.std.specs.Float.Ieee.{eq, ne}
use Rattle.std.specs.Float.Ieee.Scale.{finite}
use Rattle.float.specs.Helpers.{nought}
use Rattle.trig.proofs.Choices.{then_is}
use Rattle.geometry.specs.Direction.{with_length}
use Rattle.geometry.proofs.normal.with_length.Goals as goal
use Rattle.geometry.proofs.normal.with_length.Goals.{then-finite, else-finite}

chosen : {A : Type 0} (f z : Bool) (d : A) → (f && not z) ≡ true → Some d ≡ cond (not f) None (cond z None (Some d))
chosen true false d e = refl
chosen true true d e = absurd (true≢false (sym e))
chosen false z d e = absurd (true≢false (sym e))

absent : {A : Type 0} (f z : Bool) (d : A) → (f && not z) ≡ false → None ≡ cond (not f) None (cond z None (Some d))
absent false z d e = refl
absent true true d e = refl
absent true false d e = absurd (true≢false e)

pub returns : goal.returns
unfolding with_length ne eq
returns c =
    let f = finite c.args.len in
    let z = eq c.args.len nought in
    let both : c.if-finite.then ≡ (f && not z) = elim c.if-finite.branch [
      | then-finite w ↦ w.then-is ∙ ap (λ (b : Bool). b && not z) (sym w.if-finite.true ∙ c.finite.ensures)
      | else-finite w ↦ w.then-is ∙ w.if-finite.false ∙ ap (λ (b : Bool). b && not z) (sym w.if-finite.false ∙ c.finite.ensures)
    ] in
    then_is c.then.result c.if-finite.then _ (with_length c.args.v c.args.len) c.then.ensures.variant c.then.ensures.some
    (λ r h t. ap Some (search rules) ∙ chosen f z _ (sym both ∙ t))
    (λ e. absent f z _ (sym both ∙ e))
