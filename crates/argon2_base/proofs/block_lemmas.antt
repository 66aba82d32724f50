pub mod ChainLemmas
pub mod LaneLemmas
pub mod MixingLaws
pub mod MixingLemmas
