-- `Text`, `Model`, `Carrier`, `Solid`: what a model's bytes say. `ModelCheck`: what they must be. `Frame`: where a link
-- stands. `Examples`: offsets of breaches, worked out.
pub mod Text
pub mod Model
pub mod Carrier
pub mod Solid
pub mod ModelCheck
pub mod Frame
pub mod Examples
