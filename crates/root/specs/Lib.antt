-- `Root`: what the square root answers at every float. `RootSteps`: the words of inner functions.
pub mod Root
pub mod RootSteps
pub mod Examples
