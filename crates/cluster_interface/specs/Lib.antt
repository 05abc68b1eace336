pub mod Interface
pub mod Taking
pub mod Starting
