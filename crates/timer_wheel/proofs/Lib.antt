pub mod Keeps
pub mod Finds
pub mod Leaves
pub mod Lookups
pub mod Dues
