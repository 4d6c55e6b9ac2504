pub mod Layout
pub mod Choices
pub mod Search
pub mod Design
