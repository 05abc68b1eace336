pub mod Weights
pub mod Packets
pub mod Fronts
pub mod Agreeing
pub mod Worlds
pub mod Steps
pub mod Starting
