mod Counts
pub mod Found
mod NextKeys
mod Progressed
mod Steps
