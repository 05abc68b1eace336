pub mod Laid
pub mod Steps
pub mod Written
