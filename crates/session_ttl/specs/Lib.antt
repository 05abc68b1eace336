pub mod Endings
pub mod Timed
