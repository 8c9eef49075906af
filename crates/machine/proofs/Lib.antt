pub mod Alone
pub mod Bringing
pub mod Divides
pub mod Copies
pub mod Pairs
