pub mod Slices
pub mod Tests
