pub mod Pairs
pub mod Packets
pub mod Faults
pub mod Laws
