pub mod Turned
pub mod Stored
pub mod Cached
pub mod Running
pub mod Space
pub mod Chunks
pub mod Lent
