-- The verdict, from the axes that the two joint sets reach: two neighbours get their midpoint where they divide, and
-- stay where they do not.
use mathlib.Core.Path.{◌≡◌, refl}
use mathlib.Core.Bool.{Bool, true, false, not, cond, ◌&&◌}
use Rattle.std.specs.Prelude.{None, Option, Some}
use Rattle.chain.specs.declared.Prepared.{Prepared}
use Rattle.middle.specs.Testing.{joints_unchanged, pose_of, midpoint, portions_within, segment_within, near_an_end, divides, verdict_with}
use Rattle.middle.specs.declared.Item.{Item}
use Rattle.middle.specs.declared.Tolerances.{Tolerances}

by_tests : (same within near : Bool) (v : Option Item)
    → cond same None (cond within None (cond near None v)) ≡ cond (not (cond same true within) && not near) v None
by_tests true within true v = refl
by_tests true within false v = refl
by_tests false true true v = refl
by_tests false true false v = refl
by_tests false false true v = refl
by_tests false false false v = refl

pub verdict_is : (p : Prepared) (tol : Tolerances) (left right : Item)
    → verdict_with p tol left right (pose_of p left.joints).axis (pose_of p right.joints).axis ≡ cond (divides p tol left right) (Some (midpoint p left right)) None
unfolding verdict_with divides segment_within
verdict_is p tol left right =
    by_tests (joints_unchanged left.joints right.joints) (portions_within p tol left right (pose_of p left.joints).axis (pose_of p right.joints).axis)
    (near_an_end left right (midpoint p left right)) (Some (midpoint p left right))
