-- What the checks of `inverse` leave behind them: a chain that has passed its own, a hint within 36,000 degrees, and a
-- pose whose axis has a direction, so that the second 15, that of `toward`, is never answered (`axis_unit`).
use mathlib.Core.Path.{◌≡◌, refl}
use mathlib.Core.Bool.{true, ◌&&◌, false≢true, and-eq-true_iff}
use lib.Dec.{T}
use lib.Ieee.{Float, binary64, fits}
use Rattle.std.specs.Prelude.{None, Ok, Option, Some}
use Rattle.refusal.specs.declared.Cause.{Cause}
use Rattle.geometry.specs.declared.Vec3.{Vec3}
use Rattle.geometry.specs.Direction.{all_finite, unit_direction}
use Rattle.chain.specs.declared.Kinematics.{Kinematics}
use Rattle.chain.specs.declared.ToolPose.{ToolPose}
use Rattle.chain.specs.Check.{demand, chain_check, served, has_direction, within, all_within, chain_within, longest}
use Rattle.chain.specs.Forward.{length_good}
use Rattle.chain.proofs.Passing.{demand_passed, SixPassed, six_passed}
use Rattle.inverse.specs.Inverse.{hint_finite, hint_within, inverse_sizes, inverse_check}
use Rattle.inverse.specs.declared.Angles.{Angles}
use Rattle.inverse.proofs.AngleBounds.{PairUpTo, hint_up_to}

-- the numbers of a hint are doubles
abbrev pub FitAngles : Angles → Type 0
FitAngles a = T (fits binary64 a.a0) × T (fits binary64 a.a1)

unit_in : (d : Option Vec3) → served d ≡ true → (u : Vec3) × (d ≡ Some u)
unit_in (Some u) h = (u, refl)
unit_in None h = absurd (false≢true h)

module _ (k : Kinematics) (pose : ToolPose) (tool : Float) (hint : Angles) (passed : inverse_check k pose tool hint ≡ Ok tt) where
  parts : SixPassed (demand (length_good tool) Cause.ToolLength 0) (demand (has_direction pose.axis) Cause.ToolAxisZero 0) (chain_check k) (demand (all_finite pose.tip) Cause.NotFinite 0) (demand (hint_finite hint) Cause.NotFinite 0) (demand (inverse_sizes k pose.tip tool hint) Cause.TooLarge 0)
  unfolding inverse_check
  parts = six_passed (demand (length_good tool) Cause.ToolLength 0) (demand (has_direction pose.axis) Cause.ToolAxisZero 0) (chain_check k) (demand (all_finite pose.tip) Cause.NotFinite 0) (demand (hint_finite hint) Cause.NotFinite 0) (demand (inverse_sizes k pose.tip tool hint) Cause.TooLarge 0) passed

  pub chain_passed : chain_check k ≡ Ok tt
  chain_passed = parts.third

  pub axis_unit : (u : Vec3) × (unit_direction pose.axis ≡ Some u)
  unfolding has_direction
  axis_unit = unit_in (unit_direction pose.axis) (demand_passed (has_direction pose.axis) Cause.ToolAxisZero 0 parts.second)

  pub checked_hint : FitAngles hint → PairUpTo 36000 hint
  unfolding inverse_sizes
  checked_hint fit =
      let sizes = demand_passed (inverse_sizes k pose.tip tool hint) Cause.TooLarge 0 parts.sixth in
      let first = (and-eq-true_iff (within tool longest && all_within pose.tip longest && hint_within hint) (chain_within k)).0 sizes in
      hint_up_to hint fit.0 fit.1 ((and-eq-true_iff (within tool longest && all_within pose.tip longest) (hint_within hint)).0 first.0).1
