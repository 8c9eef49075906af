pub mod Literals
pub mod Filling
pub mod Seeking
pub mod Passing
pub mod CarrierKinds
pub mod Gaps
pub mod Promises
