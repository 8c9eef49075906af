pub mod Checked
-- `Bytes`, `ChainBytes`: a chain from its bytes. `Check`: the lists of checks. `Prepared`: a chain with unit axes.
-- `Doubles`: what numbers they are of.
-- `Forward`: from joints to the tool's pose. `Ready`: a chain that a call serves; `ReadySteps`: its inner functions.
-- `Angles`: the angle of one rotary. `Examples`: chain bytes, worked out.
pub mod Bytes
pub mod ChainBytes
pub mod Check
pub mod Prepared
pub mod Doubles
pub mod Forward
pub mod Ready
pub mod ReadySteps
pub mod Angles
pub mod Examples
