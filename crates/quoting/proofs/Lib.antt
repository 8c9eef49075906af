pub mod Quotes
pub mod Spaces
