pub mod Appending
pub mod Certain
pub mod PayloadReads
pub mod RecordReads
