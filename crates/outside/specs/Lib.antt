pub mod Causes
pub mod InMemory
pub mod Keepers
pub mod KeepersInMemory
