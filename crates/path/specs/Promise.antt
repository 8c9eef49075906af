-- What a path's joints promise, whatever the start and the cone: this is solve_path's part of the price list's
-- statement, and what division stands on.
use Rattle.std.specs.Prelude.{◌≡◌, true, false, eqb}
use Rattle.lists.specs.Each.{Each}
use Rattle.float.specs.Helpers.{nought}
use Rattle.chain.specs.declared.Joints.{Joints}
use Rattle.chain.specs.declared.Kinematics.{Kinematics}
use Rattle.chain.specs.Check.{joints_finite}
use Rattle.path.specs.Unwinding.{inside}
use Rattle.path.specs.Posing.{bounds_of, turned_within}
use Rattle.path.specs.Solving.{PathAnswer, Along, AtPose, Kept}

-- every number is finite; no angle is outside its rotary's limits, or past 36,000 degrees; the angle of a rotary that
-- the chain has not is +0.0
pub record Served (k : Kinematics) (j : Joints) : Type 0 where
  pub numbers : joints_finite j ≡ true
  pub limits : inside (bounds_of k) j ≡ true
  pub turns : turned_within j ≡ true
  pub unused : eqb k.count 2 ≡ false → j.a1 ≡ nought

-- of every joint set, where nothing is refused
abbrev pub OnPath : (Joints → Type 0) → PathAnswer → Type 0
OnPath P (Along l) = Each P l
OnPath P (AtPose r) = Unit {0}
OnPath P (Kept r) = Unit {0}
