pub mod SideBySide
pub mod Onto
pub mod Places
pub mod Tagging
