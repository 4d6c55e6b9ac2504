pub mod Back
pub mod Pairs
