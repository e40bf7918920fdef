pub mod Held
pub mod Statuses
pub mod Openings
pub mod Rooms
pub mod Calls
pub mod Exports
pub mod Saves
