pub mod blake2b_lemmas
pub mod block_lemmas
pub mod phc_lemmas
pub mod Imports
