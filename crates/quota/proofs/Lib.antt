pub mod Checks
pub mod Accounts
pub mod Settling
