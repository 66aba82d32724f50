pub mod Denials
pub mod Hashes
pub mod Policy
pub mod Renewals
pub mod StoredFor
