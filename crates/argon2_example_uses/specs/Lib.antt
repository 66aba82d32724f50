pub mod Arena
pub mod Login
pub mod Passwords
pub mod Scheduler
pub mod Vault
