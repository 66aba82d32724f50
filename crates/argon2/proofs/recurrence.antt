pub mod History
pub mod Independence
pub mod PermittedPlaces
pub mod Sources
pub mod Validity
