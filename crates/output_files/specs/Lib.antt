pub mod Counts
pub mod Disks
pub mod Links
pub mod Logs
pub mod Places
pub mod Steps
pub mod Both
