pub mod Fronts
pub mod Adding
pub mod Rising
pub mod Folding
pub mod Crossing
