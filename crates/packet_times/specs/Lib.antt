pub mod Durations
pub mod Medians
pub mod Sums
pub mod Clocks
pub mod Stamps
pub mod Heads
pub mod Laws
pub mod Examples
