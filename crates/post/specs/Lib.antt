-- `Posting`: what the program writes for what it reads. `Steps`: words of inner functions' contracts. `Examples`:
-- worked cases.
pub mod Posting
pub mod Steps
pub mod Examples
