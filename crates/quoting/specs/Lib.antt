-- What a halving costs, with the cost of a pair as a parameter.
pub mod Costing
