-- Joint sets in order. A sort by insertion: each goes before the first that it precedes, so that of two that tie the
-- earlier stays first.
use Rattle.std.specs.Prelude.{Bool, true, false, cond, List, [], ◌∷◌}
use Rattle.lists.specs.Fold.{fold}
use Rattle.arrayvec.specs.ArrayVec.{ArrayVec}
use Rattle.float.specs.Helpers.{nought, size_of}
use Rattle.std.specs.declared.cmp.Ordering.{Ordering}
use Rattle.std.specs.Ordering.{ordering_then}
use Rattle.float.specs.TotalOrder.{before, total_compare}
use Rattle.geometry.specs.declared.Vec3.{Vec3}
use Rattle.geometry.specs.Vector.{vector}
use Rattle.chain.specs.declared.Joints.{Joints}

-- ---- the order
unfoldable pub smaller : Joints → Joints → Bool
smaller j k = before (size_of j.a0) (size_of k.a0)

unfoldable pub precedes : Joints → Joints → Bool
precedes j k =
    cond (smaller j k) true
    (cond (smaller k j) false
    (cond (before j.a0 k.a0) true
    (cond (before k.a0 j.a0) false
    (before j.a1 k.a1))))

-- the same as one comparison after another
unfoldable pub compare : Joints → Joints → Ordering
compare j k =
    ordering_then (ordering_then (total_compare (size_of j.a0) (size_of k.a0)) (total_compare j.a0 k.a0)) (total_compare j.a1 k.a1)

unfoldable pub insert : List Joints → Joints → List Joints
insert [] j = j ∷ []
insert (k ∷ l) j = cond (precedes j k) (j ∷ k ∷ l) (k ∷ insert l j)

unfoldable pub sorted : List Joints → List Joints
sorted l = fold insert [] l

-- ---- the solutions of a call
abbrev pub origin : Vec3
origin = vector nought nought nought

abbrev pub nowhere : Joints
nowhere = record { xyz = origin; a0 = nought; a1 = nought }

-- the joint sets of a list, as a vector of at most 50 holds them
abbrev pub filled : List Joints → ArrayVec Joints
filled l = record { items = l }

abbrev pub no_solutions : ArrayVec Joints
no_solutions = filled []
