pub mod Fold
pub mod Rows
pub mod Search
pub mod Padding
pub mod Tests
pub mod Each
pub mod Library
