pub mod Reading
pub mod Streams
pub mod Ivf
pub mod Y4m
pub mod Texts
pub mod Parts
