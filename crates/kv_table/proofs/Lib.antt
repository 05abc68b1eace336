pub mod Prefixes
pub mod Modifies
pub mod TombLemmas
pub mod Holding
