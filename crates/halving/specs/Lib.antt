pub mod Halving
pub mod Inserting
