pub mod Computing
pub mod KnownAnswers
pub mod KnownBase64
pub mod KnownDigests
pub mod KnownInitialHash
pub mod KnownTag
pub mod MixingValues
