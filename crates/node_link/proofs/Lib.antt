mod Hosting
mod Linked
mod Lists
pub mod Staying
