pub mod Like
pub mod Each
pub mod Texts
pub mod Parts
pub mod Identifiers
pub mod Lengths
pub mod Names
