pub mod Text
pub mod Limits
pub mod Forms
pub mod Outside
pub mod Input
pub mod Run
pub mod Ends
pub mod Status
