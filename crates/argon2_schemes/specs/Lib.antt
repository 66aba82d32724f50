pub mod Locks
pub mod Prefixes
pub mod Schemes
