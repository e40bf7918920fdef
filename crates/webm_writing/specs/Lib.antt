pub mod Pieces
pub mod Written
pub mod Fitting
pub mod Entries
pub mod Places
pub mod Worked
pub mod Tests
