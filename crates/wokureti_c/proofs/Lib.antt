pub mod Cut
pub mod Handles
pub mod Unboxes
mod Opens
