pub mod PlaceLemmas
pub mod KeyLemmas
pub mod UpdateLemmas
pub mod InterLemmas
mod ChainLemmas
mod OverLemmas
pub mod PaddingLemmas
pub mod PartitionLemmas
mod OutlineLemmas
pub mod ShowBytes
pub mod ShowTags
