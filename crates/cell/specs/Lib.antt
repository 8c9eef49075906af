-- `Coding`: a path that waits, in lent words and numbers. `State`: the dispatcher's. `Turning`: 64 tests of the path
-- that waits first. `Asking`: the two questions, and the smallest free number. `Admitting`: how a path comes in.
-- `Reached`: rows of calls on a lent state. `Rows`: what holds of every row of calls.
pub mod Coding
pub mod State
pub mod Turning
pub mod Asking
pub mod Admitting
pub mod Reached
pub mod Rows
