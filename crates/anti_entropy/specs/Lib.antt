pub mod Ordered
pub mod Parts
