pub mod Drawing
pub mod InMemory
pub mod Traffic
pub mod Links
pub mod Tasks
pub mod Stores
