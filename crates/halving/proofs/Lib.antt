pub mod Step
pub mod Steps
pub mod Ends
pub mod Pairs
pub mod Looser
pub mod Machine
