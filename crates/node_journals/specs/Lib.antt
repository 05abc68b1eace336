pub mod Journals
pub mod Causal
pub mod Agreement
pub mod OneWorld
pub mod Example
