-- `Helpers` and `TotalOrder`: what each function answers at every float. `Units`: what a float is worth, in which the
-- laws speak.
pub mod Helpers
pub mod TotalOrder
pub mod Units
pub mod Examples
