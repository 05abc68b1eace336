pub mod Evaluations
pub mod Turns
pub mod AgentEvents
pub mod Pairs
