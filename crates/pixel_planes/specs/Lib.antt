pub mod Samples
pub mod ReferenceSamples
pub mod Layout
pub mod Lending
pub mod Pictures
pub mod PlaneSamples
