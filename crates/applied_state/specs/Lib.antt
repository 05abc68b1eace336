pub mod Delays
pub mod Removing
pub mod States
pub mod Making
pub mod Sparing
pub mod Ends
