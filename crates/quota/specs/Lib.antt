-- Quotas by shop. `Quota`: the checks, the charge, and what a charged division answers. `Calls`: rows of calls, what
-- each leaves, and what holds of every row. `Charged`: demand 3 and R-12 of a charged division. `QuotaSteps`: the
-- charge as the program takes it, from an answer and outputs that are there already.
pub mod Quota
pub mod Calls
pub mod Charged
pub mod QuotaSteps
pub mod Examples
