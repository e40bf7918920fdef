pub mod Ended
pub mod Flushed
pub mod IvfLists
