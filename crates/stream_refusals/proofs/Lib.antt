pub mod Refused
pub mod ByteLines
pub mod BytePredictions
pub mod BytePlanes
pub mod KeySizes
pub mod GoodSteps
