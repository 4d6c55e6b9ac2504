pub mod Checked
pub mod Design
