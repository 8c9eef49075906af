-- What the contracts say, in reading order: `Fraction`, `Taylor` and `Angle` are document 01's S and C; `Kernel` and
-- `Reduction` are the steps of the code in floats, and `Waves` its sine and cosine with their promises; `Degrees` has
-- those of an angle in degrees, by which a turn is made, and `DegreeSteps` its steps; `Direction` is what an arctangent
-- promises, `Arctangent` its steps, and `Arccosine`.
pub mod Fraction
pub mod Taylor
pub mod Angle
pub mod Kernel
pub mod Reduction
pub mod Direction
pub mod Waves
pub mod Degrees
pub mod DegreeSteps
pub mod Arctangent
pub mod Arccosine
