-- `Unwinding`: angles beside the angles before them. `Singular`: the singular direction and its cone. `Locking`: the
-- solution inside the cone. `Exact`: outside. `Closest`: outside, where one solution is enough. `Posing`: one pose.
-- `Solving`: the path, over lent numbers. `Promise`: what its joints promise.
pub mod Unwinding
pub mod Singular
pub mod Locking
pub mod Exact
pub mod Closest
pub mod Posing
pub mod Solving
pub mod Promise
