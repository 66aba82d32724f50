pub mod Absorbing
pub mod HashBlocks
pub mod HasherFields
pub mod Pieces
pub mod Rounds
