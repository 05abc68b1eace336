pub mod Reading
pub mod Decoding
pub mod Counts
pub mod Kinds
