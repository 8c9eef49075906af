-- The halving in lent outputs. `Dividing`: the division, and what it leaves. `Filling`: one pair divided after others.
pub mod Dividing
pub mod Filling
