pub mod Listing
pub mod Choice
pub mod Law
pub mod Lines
pub mod Design
