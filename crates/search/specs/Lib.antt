pub mod Search
pub mod Law
pub mod Design
