pub mod Shown
pub mod Paths
pub mod Lent
pub mod Cables
