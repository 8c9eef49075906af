pub mod LooserTest
pub mod UnitFinite
pub mod Reached
