pub mod Tables
pub mod Fault
pub mod Rfc
pub mod Bounds
