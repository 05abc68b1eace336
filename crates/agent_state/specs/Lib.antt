pub mod Expiring
pub mod Order
pub mod Own
pub mod Replacing
