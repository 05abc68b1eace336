mod Lengths
mod Points
mod Shapes
