pub mod Done
pub mod Endings
pub mod Noted
pub mod Frames
pub mod Reports
pub mod Saved
pub mod Outs
