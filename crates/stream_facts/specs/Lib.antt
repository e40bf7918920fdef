pub mod Facts
pub mod Places
pub mod Lines
pub mod Json
pub mod Lists
pub mod Refusals
