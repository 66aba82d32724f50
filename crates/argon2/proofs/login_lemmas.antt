pub mod LoginLemmas
pub mod RunLemmas
pub mod Stores
