pub mod Cong
pub mod Whole
pub mod Bounds
