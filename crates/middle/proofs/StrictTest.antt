-- The strict test beside the Rust's, for any tolerances. `old`: where the test is not strict it is the Rust's: joints
-- that do not differ, or both gaps of the midpoint within. `exactly`: where it is strict, two neighbours pass exactly
-- if the old test passes and the tip and axis gaps at one quarter and three quarters are within the same tolerances.
-- `excepted`: joints that do not differ pass both, whatever the gaps are. `stricter`: what passes the strict test
-- passes the old one.
use mathlib.Core.Path.{◌≡◌, refl, ap, ◌∙◌}
use mathlib.Core.Logic.{◌⊎◌, inl, inr, ⊎_elim, ◌↔◌}
use mathlib.Core.Bool.{Bool, true, false, cond, ◌&&◌, false≢true, and-eq-true_iff}
use lib.Ieee as Ieee
use lib.Ieee.{Float}
use Rattle.geometry.specs.declared.Vec3.{Vec3}
use Rattle.geometry.specs.Vector.{gap_vec, lerp_vec}
use Rattle.geometry.specs.Slerp.{slerp_axis, angle_between_deg}
use Rattle.chain.specs.declared.Prepared.{Prepared}
use Rattle.middle.specs.Testing.{quarter, three_quarters, plain, strictly, joints_unchanged, joints_between, pose_of, midpoint, pose_within, within_at, segment_within, tip_gap, axis_gap, middle_within, quarters_within}
use Rattle.middle.specs.declared.Item.{Item}
use Rattle.middle.specs.declared.Tolerances.{Tolerances}
use Rattle.middle.proofs.Portions.{and_true, portions_are}

by_parts : (same middle first second : Bool)
    → (cond same true (middle && (first && second)) ≡ true)
    ↔ ((cond same true (middle && true) ≡ true) × ((same ≡ true) ⊎ ((first ≡ true) × (second ≡ true))))
by_parts true middle first second = (λ e. (refl, inl refl), λ h. refl)
by_parts false true first second = (
  λ e. (refl, inr ((and-eq-true_iff first second).0 e)),
  λ h. ⊎_elim (λ e. absurd (false≢true e)) (λ q. (and-eq-true_iff first second).1 q) h.1,
)
by_parts false false first second = (λ e. absurd (false≢true e), λ h. absurd (false≢true h.0))

module _ (p : Prepared) (tol : Tolerances) (left right : Item) where
  -- the axes that the two joint sets reach
  abbrev axis_left : Vec3
  axis_left = (pose_of p left.joints).axis

  abbrev axis_right : Vec3
  axis_right = (pose_of p right.joints).axis

  abbrev unchanged : Bool
  unchanged = joints_unchanged left.joints right.joints

  -- "The old call still equals the Rust"
  pub old : segment_within p (plain tol) left right
      ≡ cond unchanged true
      (Ieee.le (tip_gap left right (midpoint p left right)) tol.chord && Ieee.le (axis_gap axis_left axis_right (midpoint p left right)) tol.axis)
  unfolding segment_within middle_within
  old =
      ap (λ (b : Bool). cond unchanged true b)
      (portions_are p (plain tol) left right axis_left axis_right ∙ and_true _)

  -- both gaps at a portion t of the way are within, written out
  pub gaps : (t : Float) → (within_at p tol left right axis_left axis_right t ≡ true)
      ↔ ((Ieee.le (gap_vec (pose_of p (joints_between t left.joints right.joints)).tip (lerp_vec left.pose.tip right.pose.tip t)) tol.chord ≡ true)
      × (Ieee.le (angle_between_deg (pose_of p (joints_between t left.joints right.joints)).axis (slerp_axis axis_left axis_right t)) tol.axis ≡ true))
  unfolding within_at pose_within
  gaps t = and-eq-true_iff _ _

  -- "a pair passes exactly if the old test passes and the tip and axis gaps at one quarter and three quarters are
  -- within the same tolerances", with its exception
  pub exactly : (segment_within p (strictly tol) left right ≡ true)
      ↔ ((segment_within p (plain tol) left right ≡ true)
      × ((unchanged ≡ true) ⊎ ((within_at p tol left right axis_left axis_right quarter ≡ true) × (within_at p tol left right axis_left axis_right three_quarters ≡ true))))
  unfolding segment_within middle_within quarters_within within_at pose_within
  exactly =
      rw (
        portions_are p (strictly tol) left right axis_left axis_right,
        portions_are p (plain tol) left right axis_left axis_right,
      )
      (by_parts unchanged (middle_within tol left right axis_left axis_right (midpoint p left right))
      (within_at p tol left right axis_left axis_right quarter) (within_at p tol left right axis_left axis_right three_quarters))

  -- "Excepted is what counts none in the old quotation: it passes": joints that do not differ
  pub excepted : unchanged ≡ true → segment_within p tol left right ≡ true
  unfolding segment_within
  excepted e = rw e

  pub stricter : segment_within p (strictly tol) left right ≡ true → segment_within p (plain tol) left right ≡ true
  stricter e = (exactly.0 e).0
