pub mod States
pub mod Places
