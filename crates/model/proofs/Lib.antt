pub mod SameBytes
pub mod Links
pub mod RightAngles
pub mod NeverFallback
