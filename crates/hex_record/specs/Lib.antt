pub mod Digits
pub mod Record
pub mod Design
