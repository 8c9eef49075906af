-- The proofs. What other crates cite is in Choices, Laws, KernelLaws, Slope, DegreeBack, DegreeSizes, DegreeWide and
-- AngleDegrees; the rest leads there.
-- Tests and tables.
pub mod Choices
pub mod Table
-- The numbers in decimals.
pub mod Literals
-- S and C: the terms, Horner's form, and the slope.
pub mod TaylorTerms
pub mod HornerForm
pub mod Slope
-- The sums in floats.
pub mod SumError
pub mod KernelError
-- The reduction.
pub mod NearestTurn
pub mod Scaling
-- Sine and cosine.
pub mod WaveError
pub mod WaveSteps
pub mod KernelLaws
pub mod WaveLaws
-- Sine and cosine of degrees: the error of the reduction, -0.0, the bound, turning back, right angles, and the sizes.
pub mod DegreeError
pub mod DegreeFloats
pub mod DegreeZeros
pub mod DegreeNear
pub mod DegreeSteps
pub mod DegreeBack
pub mod DegreeRightAngles
pub mod DegreeSizes
pub mod DegreeWide
pub mod DegreeLaws
-- Arctangent: the angle on the grid, then by the eighths of the plane.
pub mod ResidualBound
pub mod GridAngle
pub mod Bisection
pub mod TangentError
pub mod Cells
pub mod Quadrants
pub mod CandidateCheck
pub mod DirectionLaws
pub mod ArctangentLaws
pub mod Denominators
-- Arccosine.
pub mod ArccosineLaws
pub mod Laws
-- Sizes of angles, in degrees and in radians.
pub mod AngleDegrees
pub mod Examples
