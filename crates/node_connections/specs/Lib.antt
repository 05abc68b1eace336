pub mod Journals
pub mod Turning
pub mod Boards
pub mod Serving
pub mod Stages
pub mod Services
pub mod Jobs
