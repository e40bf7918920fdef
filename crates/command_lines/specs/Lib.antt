pub mod Endings
pub mod Formats
pub mod InLine
pub mod Readings
pub mod Controls
