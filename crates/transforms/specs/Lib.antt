pub mod Transforms
pub mod Residuals
pub mod Factors
pub mod Pairs
