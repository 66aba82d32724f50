pub mod ListReading
pub mod ListedLemmas
pub mod Named
pub mod ReadAgain
