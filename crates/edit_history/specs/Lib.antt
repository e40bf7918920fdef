pub mod Changes
pub mod Steps
pub mod Places
pub mod Laws
pub mod Histories
pub mod Values
pub mod Trails
pub mod Worked
