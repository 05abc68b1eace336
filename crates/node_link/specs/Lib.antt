pub mod Outboxes
pub mod Hosts
pub mod Links
