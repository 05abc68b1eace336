pub mod Answers
pub mod Words
pub mod Numbers
pub mod Requests
pub mod Lines
pub mod Text
