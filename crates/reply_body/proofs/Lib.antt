pub mod Items
pub mod Locking
pub mod Plain
pub mod Statuses
pub mod Whole
