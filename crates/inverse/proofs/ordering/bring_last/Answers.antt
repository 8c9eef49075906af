use native.Mathlib.Omega.{arith}
use mathlib.Core.Path.{◌≡◌, ap, ◌∙◌}
use mathlib.Core.List.{[], ◌∷◌}
use lib.ListN.{length, length-append}
use lib.Seq.{get_or-append_seam}
use Rattle.inverse.proofs.Insertion.{last_brought}
use Rattle.inverse.proofs.ordering.bring_last.Goals as goal

pub returns-clause-at_place : goal.returns-clause-at_place
returns-clause-at_place c = λ front j is.
    let p = c.args.place in
    let asked = c.requires in
    let long = ap length is ∙ length-append front (j ∷ []) in
    let end : c.args.last ≡ length front = omega arith in
    rw (c.copy_within.ensures.after, is, end, get_or-append_seam) (last_brought front j p (omega arith))
