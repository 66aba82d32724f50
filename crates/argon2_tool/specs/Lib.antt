pub mod Asking
pub mod Commands
pub mod Failures
