pub mod BitLemmas
pub mod TakesLemmas
pub mod AddLemmas
pub mod GroupLemmas
mod PacketLemmas
mod CopyLemmas
