-- `Numbers`: the number of each cause, and a refusal. `Examples`: those numbers once more, one by one.
pub mod Numbers
pub mod Examples
