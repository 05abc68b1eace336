pub mod Lines
pub mod Plays
pub mod Holds
pub mod Legal
pub mod Reads
pub mod Serving
pub mod Keeping
pub mod Holding
