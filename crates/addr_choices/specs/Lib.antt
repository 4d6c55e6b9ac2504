pub mod Choices
pub mod Design
