pub mod Audit
pub mod Finding
pub mod Object
