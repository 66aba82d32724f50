pub mod Accounts
pub mod Errors
