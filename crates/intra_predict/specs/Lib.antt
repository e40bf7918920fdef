pub mod Edges
pub mod Means
pub mod Blocks
pub mod WholeSample
pub mod InPlace
pub mod SubSample
pub mod SubLaws
