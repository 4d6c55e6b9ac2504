pub mod Counts
pub mod Design
