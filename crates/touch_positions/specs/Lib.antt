pub mod Positions
pub mod NameVersions
pub mod States
