pub mod CachedStates
pub mod Capacities
pub mod CommandLines
pub mod Locations
pub mod Readings
pub mod Statuses
