pub mod Layout
pub mod Layouts
pub mod Search
pub mod Design
