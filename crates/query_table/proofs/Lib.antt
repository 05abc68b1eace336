pub mod Finding
pub mod Renaming
pub mod Binding
