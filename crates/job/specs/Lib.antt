-- `JobBytes`: a job from its bytes. `JobPoses`: its poses in lent numbers. `Cable`: the cable number. `Spelling` and
-- `Telling`: the text of an answer. `Examples`: worked cases of each.
pub mod JobBytes
pub mod JobPoses
pub mod Cable
pub mod Spelling
pub mod Telling
pub mod Examples
