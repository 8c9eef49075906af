-- The calls that divide. `Checking`: the checks before the first test. `Subdividing`: the two calls. `Refused`: what is
-- refused where they give no path. `Price`: what the price list states of them. `Looser`: what it states of looser
-- tolerances and of a second division. `Examples`: the worked examples, in one table.
pub mod Checking
pub mod Subdividing
pub mod Refused
pub mod Looser
pub mod Price
pub mod Examples
