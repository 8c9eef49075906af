-- The table.
pub mod Rule
-- The nearest half degree, of every angle that `choose` answers.
pub mod HalfDegree
pub mod Chosen
-- The turns of the teeth.
pub mod Halves
pub mod Placing
pub mod OnATooth
pub mod ToothBack
-- The test of the reached axis.
pub mod SmallAngle
-- The refusals.
pub mod Exactly
