pub mod Kept
pub mod Dues
pub mod Finds
