pub mod Failures
pub mod Lines
