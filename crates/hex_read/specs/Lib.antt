pub mod Lines
pub mod Read
pub mod Design
