-- What the profile promises of its answer, whatever it is given: 31 exactly if the chosen solution, on its teeth,
-- leaves a rotary's limits or breaks the tolerance; 19 exactly if the tolerance is bad; every refusal of `choose` as it
-- is; never 30; and each angle that `choose` gives goes to its nearest half degree.
use Rattle.std.specs.Prelude.{◌≡◌, ℕ, true, false, T, ◌⊎◌, ◌↔◌, Float, Err, Ok, Result}
use Rattle.std.specs.Float.{binary64}
use Rattle.std.specs.Float.Ieee.{fits}
use Rattle.refusal.specs.declared.Refusal.{Refusal}
use Rattle.refusal.specs.Numbers.{number_of, served}
use Rattle.refusal.specs.declared.Cause.{Cause}
use Rattle.chain.specs.declared.Joints.{Joints}
use Rattle.chain.specs.declared.Kinematics.{Kinematics}
use Rattle.chain.specs.declared.ToolPose.{ToolPose}
use Rattle.inverse.specs.declared.Choice.{Choice}
use Rattle.inverse.specs.Choose.{hint_of, choose}
use Rattle.divide.specs.Checking.{tolerance_good}
use Rattle.hirth.specs.Snapping.{snapped, NearestTooth}
use Rattle.hirth.specs.Profile.{holds_limits, holds_tolerance, tooth_joints}

-- the number of an answer
abbrev pub number_in : Result Joints Refusal → ℕ
number_in (Ok j) = served
number_in (Err r) = number_of r.cause

-- `choose` has a solution, and on its teeth it leaves the limits or breaks the tolerance
pub record Misses (k : Kinematics) (pose : ToolPose) (tool : Float) (choice : Choice) (tol : Float) : Type 0 where
  pub j : Joints
  pub good : tolerance_good tol ≡ true
  pub solution : choose k pose tool choice ≡ Ok j
  pub breaks : (holds_limits k pose tool j ≡ false) ⊎ (holds_tolerance k pose tool tol j ≡ false)

-- of an answer
pub record Promised (k : Kinematics) (pose : ToolPose) (tool : Float) (choice : Choice) (tol : Float) (answer : Result Joints Refusal) : Type 0 where
  pub misses : (number_in answer ≡ number_of Cause.ToothMisses) ↔ Misses k pose tool choice tol
  pub bad_tolerance : (number_in answer ≡ number_of Cause.Tolerance) ↔ (tolerance_good tol ≡ false)
  pub refused : (r : Refusal) → tolerance_good tol ≡ true → choose k pose tool choice ≡ Err r → answer ≡ Err r
  pub answered : (j : Joints) → tolerance_good tol ≡ true → choose k pose tool choice ≡ Ok j → holds_limits k pose tool j ≡ true → holds_tolerance k pose tool tol j ≡ true → answer ≡ Ok (tooth_joints k pose tool j)
  pub never_parallel : number_in answer ≡ number_of Cause.ParallelRotaries → ⊥
  pub nearest : T (fits binary64 (hint_of choice).a0) → T (fits binary64 (hint_of choice).a1) → (j : Joints) → choose k pose tool choice ≡ Ok j
      → NearestTooth j.a0 (snapped j.a0) × NearestTooth j.a1 (snapped j.a1)
