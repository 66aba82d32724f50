pub mod Lines
pub mod Names
pub mod Rows
pub mod RowTexts
pub mod Table
