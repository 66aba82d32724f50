mod LentMemory
pub mod params_lemmas
pub mod login_lemmas
pub mod recurrence
pub mod context_lemmas
pub mod password_hash_lemmas
pub mod Imports
