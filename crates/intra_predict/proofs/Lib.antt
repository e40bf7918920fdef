pub mod Directions
pub mod HeldLanes
pub mod MeanLemmas
pub mod Places
pub mod Rows
pub mod InPlace
