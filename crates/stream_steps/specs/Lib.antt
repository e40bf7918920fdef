pub mod Decoding
pub mod DecodingLaws
pub mod Hidden
pub mod PlaneBytes
