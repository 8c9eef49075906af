-- Each file defines what the functions of the source file of its name answer, in the operations of binary64 and in the
-- Rust's order.
pub mod Vector
pub mod Direction
pub mod Turn
pub mod Rigid
pub mod Slerp
-- But for this one, which says what numbers are handed over.
pub mod Doubles
