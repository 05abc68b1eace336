pub mod Ports
pub mod InMemory
