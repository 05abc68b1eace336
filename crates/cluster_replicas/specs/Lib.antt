pub mod EntryTerms
pub mod Servers
