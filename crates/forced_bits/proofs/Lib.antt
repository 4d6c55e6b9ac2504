pub mod Masks
pub mod Loops
