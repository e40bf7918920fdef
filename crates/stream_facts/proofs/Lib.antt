pub mod Positions
pub mod PlaceLemmas
