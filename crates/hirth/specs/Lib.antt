pub mod Teeth
pub mod Snapping
pub mod Turning
pub mod Profile
pub mod ProfileSteps
pub mod Promise
pub mod Examples
