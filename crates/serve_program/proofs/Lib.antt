pub mod Ended
pub mod ExportLines
pub mod Finished
pub mod Flushed
pub mod LiveEnded
pub mod Mistakes
pub mod Unexported
