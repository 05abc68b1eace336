pub mod Head
pub mod Judge
pub mod Stream
pub mod Reader
pub mod Rejections
pub mod Replies
pub mod State
