-- `UpToTwo`: at most two answers. `Subproblem`: Paden-Kahan 1 and 2. `AxisMap`: whose angle is whose. `Orientation`:
-- the raw angles of a target axis. `Wraps`: their whole turns. `Solutions`: joint sets in order. `Inverse`: from the
-- tool's pose to all of them. `Choose`: one of them. `Copied`: the lists as values that are copied.
pub mod UpToTwo
pub mod Subproblem
pub mod AxisMap
pub mod Orientation
pub mod Wraps
pub mod Solutions
pub mod Inverse
pub mod Choose
pub mod Copied
