-- What the tolerance test asks at its portions, as the program asks it: of the midpoint, and if the test is strict at
-- both quarters. At the portion `half` the test is that of the midpoint by definition (`at_half`).
use mathlib.Core.Path.{◌≡◌, refl, sym, ap, ◌∙◌}
use mathlib.Core.Bool.{Bool, true, false, not, cond, ◌&&◌}
use lib.Ieee.{Float}
use Rattle.lists.specs.Search.{all}
use Rattle.geometry.specs.declared.Vec3.{Vec3}
use Rattle.chain.specs.declared.Prepared.{Prepared}
use Rattle.middle.specs.Testing.{half, quarter, three_quarters, portions, midpoint, pose_within, within_at, portions_within, tip_gap, axis_gap, middle_within, quarters_within}
use Rattle.middle.specs.declared.Item.{Item}
use Rattle.middle.specs.declared.Tolerances.{Tolerances}

pub and_true : (b : Bool) → (b && true) ≡ b
and_true true = refl
and_true false = refl

strict_passes : {middle strict quarters : Bool} → middle ≡ true → strict ≡ true → quarters ≡ (middle && cond strict quarters true)
strict_passes m s = rw (m, s)

plain_passes : {middle strict : Bool} → middle ≡ true → strict ≡ false → (quarters : Bool) → not strict ≡ (middle && cond strict quarters true)
plain_passes m s quarters = rw (m, s)

middle_fails : {middle : Bool} → middle ≡ false → (rest : Bool) → middle ≡ (middle && rest)
middle_fails m rest = rw m

by_portions : (at : Float → Bool) (strict : Bool) → all at (portions strict) ≡ (at half && cond strict (at quarter && at three_quarters) true)
unfolding all
by_portions at false = refl
by_portions at true = ap (λ (b : Bool). at half && (at quarter && b)) (and_true (at three_quarters))

module _ (p : Prepared) (tol : Tolerances) (left right : Item) (axis_left axis_right : Vec3) where
  pub at_half : within_at p tol left right axis_left axis_right half ≡ middle_within tol left right axis_left axis_right (midpoint p left right)
  unfolding within_at pose_within middle_within tip_gap axis_gap midpoint
  at_half = refl

  pub portions_are : portions_within p tol left right axis_left axis_right
      ≡ (middle_within tol left right axis_left axis_right (midpoint p left right) && cond tol.strict (quarters_within p tol left right axis_left axis_right) true)
  unfolding portions_within quarters_within
  portions_are =
      by_portions (within_at p tol left right axis_left axis_right) tol.strict
      ∙ ap (λ (b : Bool). b && cond tol.strict (quarters_within p tol left right axis_left axis_right) true) at_half

  -- the three ways through the program: by what the middle and the kind of test are found to be
  module _ (middle : Item) (is : middle ≡ midpoint p left right) where
    given : (middle_within tol left right axis_left axis_right middle && cond tol.strict (quarters_within p tol left right axis_left axis_right) true)
        ≡ portions_within p tol left right axis_left axis_right
    given = rw is (sym portions_are)

    pub by_quarters : {answer : Bool} → middle_within tol left right axis_left axis_right middle ≡ true → tol.strict ≡ true
        → answer ≡ quarters_within p tol left right axis_left axis_right → answer ≡ portions_within p tol left right axis_left axis_right
    by_quarters m s q = q ∙ strict_passes m s ∙ given

    pub by_middle : middle_within tol left right axis_left axis_right middle ≡ true → tol.strict ≡ false → not tol.strict ≡ portions_within p tol left right axis_left axis_right
    by_middle m s = plain_passes m s (quarters_within p tol left right axis_left axis_right) ∙ given

    pub not_by_middle : middle_within tol left right axis_left axis_right middle ≡ false
        → middle_within tol left right axis_left axis_right middle ≡ portions_within p tol left right axis_left axis_right
    not_by_middle m = middle_fails m (cond tol.strict (quarters_within p tol left right axis_left axis_right) true) ∙ given
