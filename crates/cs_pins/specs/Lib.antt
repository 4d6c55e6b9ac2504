pub mod Pins
pub mod Design
