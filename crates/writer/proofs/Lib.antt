pub mod Standing
pub mod Parts
pub mod Reading
pub mod Passing
pub mod Rewriting
pub mod Texts
pub mod Room
pub mod Answers
