pub mod Following
pub mod Seeing
pub mod Applying
pub mod Leading
pub mod Stepping
pub mod Beginning
pub mod Placed
pub mod Sparing
