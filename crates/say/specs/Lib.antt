pub mod Line
pub mod Design
