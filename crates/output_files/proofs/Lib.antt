pub mod Followed
pub mod Saves
pub mod Unwritten
