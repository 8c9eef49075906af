-- The proofs. Angles: within range, back again, and right angles.
pub mod Range
pub mod Literals
pub mod TurningBack
pub mod RightAngles
-- Sizes: of a turn's pair, of vectors of doubles and of bounded ones, of lengths and of unit vectors.
pub mod TurnPair
pub mod FitVectors
pub mod Bounded
pub mod Lengths
pub mod UnitSize
pub mod Quotients
pub mod AngleBetween
pub mod PlainSlerp
-- A turn does not make a vector small, so a turned unit vector has a direction.
pub mod Differences
pub mod TurnEstimate
pub mod TurnSteps
pub mod Directed
