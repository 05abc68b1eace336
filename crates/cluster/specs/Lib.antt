pub mod Beginning
pub mod Fitting
pub mod Syncing
pub mod Tending
