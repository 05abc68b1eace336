pub mod Follows
pub mod Leading
