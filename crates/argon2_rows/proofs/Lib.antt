pub mod AddLemmas
pub mod Imports
pub mod LineLemmas
pub mod RowLemmas
pub mod TableLemmas
