pub mod Splits
pub mod Numbers
