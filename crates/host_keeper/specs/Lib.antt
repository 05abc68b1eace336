pub mod Fills
pub mod Folders
pub mod Stores
pub mod Tallies
