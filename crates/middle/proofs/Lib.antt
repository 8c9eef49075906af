pub mod Literals
pub mod Portions
pub mod Halfway
pub mod StrictTest
pub mod Verdicts
pub mod Forwards
