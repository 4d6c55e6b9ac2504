pub mod Rows
pub mod Design
