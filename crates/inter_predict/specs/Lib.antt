pub mod InterSample
pub mod Blocks
pub mod Kernels
pub mod Laws
pub mod Weights
