pub mod Load
pub mod Played
pub mod LoadScript
pub mod Summary
