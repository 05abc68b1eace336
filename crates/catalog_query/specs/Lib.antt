pub mod Executing
pub mod Laws
pub mod Placing
pub mod Standing
pub mod Unread
pub mod Rows
