pub mod Kept
pub mod Law
pub mod Design
