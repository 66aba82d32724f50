mod AskingLemmas
mod LineLemmas
mod LookUpLemmas
pub mod Common
