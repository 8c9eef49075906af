-- Extremes beside a path. `Summary`: how they are worked out. `SmallestLargest`: what they are. `Asking`: which joint
-- set is the first above an angle. `Checking`: the checks of the three calls, a list each. `Entries`: what each call
-- answers and leaves. `Calls`: rows of calls. `AskingSteps`: words of inner functions.
pub mod Summary
pub mod SmallestLargest
pub mod Asking
pub mod AskingSteps
pub mod Checking
pub mod Entries
pub mod Calls
pub mod Examples
