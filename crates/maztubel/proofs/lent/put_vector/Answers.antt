use Rattle.std.proofs.Common.{◌≡◌, ◌+◌, ◌-◌, take, drop, arith, sym, ◌∙◌, drop-drop, append_assoc}
use mathlib.Core.List.{[], ◌∷◌}
use lib.Seq.{sets-eq}
use Rattle.maztubel.proofs.Written.{vector_sets}
use Rattle.maztubel.proofs.lent.put_vector.Goals as goal

pub returns : goal.returns
returns c =
    let v = c.args.v in
    let l = c.args.numbers.now in
    let at = c.args.at in
    let row = v.x ∷ v.y ∷ v.z ∷ [] in
    let k : at + 3 - at ≡ 3 = omega arith in
    rw (k, c.copy_from_slice.ensures.after, drop-drop)
    (sym (vector_sets v l at ∙ sets-eq row l at c.requires ∙ append_assoc (take at l) row (drop (at + 3) l)))
