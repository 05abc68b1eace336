pub mod Exits
pub mod Follow
pub mod Grow
pub mod Heads
pub mod Judgement
pub mod Steps
pub mod Told
pub mod Unique
