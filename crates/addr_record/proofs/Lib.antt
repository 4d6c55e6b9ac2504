pub mod Back
pub mod Long
