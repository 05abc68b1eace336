pub mod Chains
pub mod Families
pub mod Views
pub mod Places
pub mod Inside
pub mod Nodes
pub mod Walks
