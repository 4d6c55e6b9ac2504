pub mod Ranges
pub mod Shapes
