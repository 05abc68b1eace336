pub mod States
pub mod TombVersions
pub mod Holders
