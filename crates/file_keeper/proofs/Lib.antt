pub mod Counting
pub mod Extending
pub mod Replaying
pub mod Putting
pub mod Finding
pub mod Limits
