pub mod FileLemmas
pub mod FormatLemmas
pub mod Imports
pub mod ListedTableLemmas
pub mod NextOpenLemmas
pub mod OpenLemmas
pub mod PageSizeLemmas
pub mod RunLemmas
