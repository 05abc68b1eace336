pub mod Cached
pub mod Served
