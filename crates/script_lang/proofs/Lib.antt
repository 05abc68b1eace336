pub mod Cuts
pub mod Values
pub mod Shapes
pub mod Asking
