pub mod Decoded
pub mod Breaks
pub mod Starts
pub mod Alike
pub mod ShownHeaders
pub mod ShownSteps
