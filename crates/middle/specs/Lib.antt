-- What two neighbours on a path come to. `Testing`: the tolerance test, the midpoint, and when two neighbours are
-- divided.
pub mod Testing
