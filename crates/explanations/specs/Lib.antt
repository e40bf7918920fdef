pub mod Words
pub mod Lines
pub mod Refusals
pub mod Nodes
pub mod Details
pub mod Files
