pub mod NodeNames
pub mod Orders
pub mod Replaced
pub mod Turning
pub mod Members
pub mod Plain
