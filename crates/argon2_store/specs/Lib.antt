pub mod AccountFile
pub mod Edits
pub mod Errors
pub mod Making
pub mod Opening
pub mod Runs
