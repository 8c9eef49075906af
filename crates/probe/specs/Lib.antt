pub mod Answers
pub mod Forwards
