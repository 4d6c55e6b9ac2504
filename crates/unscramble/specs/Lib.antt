pub mod Words
pub mod Recovered
pub mod Design
