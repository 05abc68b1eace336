pub mod Answering
pub mod Alarms
pub mod Dialers
pub mod Sending
pub mod Processes
