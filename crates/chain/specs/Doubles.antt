-- What is handed over by value is of doubles: every number of a chain, of a rotary, of a prepared chain.
use Rattle.std.specs.Prelude.{None, Option, Some, T}
use Rattle.std.specs.Option.{ForSome}
use Rattle.std.specs.Float.{binary64}
use Rattle.std.specs.Float.Ieee.{fits}
use Rattle.geometry.specs.Doubles.{FitVec}
use Rattle.chain.specs.declared.Kinematics.{Kinematics}
use Rattle.chain.specs.declared.Prepared.{Prepared}
use Rattle.chain.specs.declared.RotaryJoint.{RotaryJoint}
use Rattle.chain.specs.declared.RotaryLimits.{RotaryLimits}
use Rattle.chain.specs.declared.Spin.{Spin}

abbrev pub TravelFits : Option RotaryLimits → Type 0
TravelFits None = Unit {0}
TravelFits (Some l) = T (fits binary64 l.min) × T (fits binary64 l.max)

pub record RotaryFits (j : RotaryJoint) : Type 0 where
  pub axis : FitVec j.axis
  pub pivot : FitVec j.pivot
  pub limits : TravelFits j.limits
  pub rest : T (fits binary64 j.rest)

pub record ChainFits (k : Kinematics) : Type 0 where
  pub first : RotaryFits k.first
  pub second : RotaryFits k.second
  pub spindle : FitVec k.spindle_axis

-- ---- a prepared chain
abbrev pub SpinFits : Spin → Type 0
SpinFits s = FitVec s.axis × FitVec s.pivot

abbrev pub PreparedFits : Prepared → Type 0
PreparedFits p = SpinFits p.first × ForSome p.second SpinFits × FitVec p.spindle
