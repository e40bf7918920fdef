pub mod Moves
pub mod Chunks
