pub mod Line
pub mod Filters
pub mod Script
pub mod Text
pub mod Found
pub mod Stage
pub mod Run
