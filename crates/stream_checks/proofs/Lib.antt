pub mod DecodedBreaks
pub mod Steps
pub mod Tallies
pub mod Parts
pub mod Ends
pub mod MediaFound
pub mod Lost
mod HashAligned
mod HashHeads
mod HashLengths
mod HashTexts
pub mod Shown
