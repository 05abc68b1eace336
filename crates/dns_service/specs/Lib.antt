pub mod Outcomes
pub mod Reading
pub mod Names
pub mod Sought
pub mod Instances
pub mod Replies
