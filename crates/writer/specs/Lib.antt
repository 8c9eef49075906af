-- `Writing`: the bytes of a job. `Checking`: the writer's checks, what it answers and leaves, and what is promised of
-- it. `Examples`: worked cases of each.
pub mod Writing
pub mod Checking
pub mod Examples
