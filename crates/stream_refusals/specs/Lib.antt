pub mod Refusals
pub mod GoodPictures
