pub mod Holds
pub mod Plans
pub mod Faults
pub mod Exports
pub mod Laws
pub mod Limits
