pub mod Lines
pub mod Watch
pub mod Buckets
pub mod Held
pub mod Hits
