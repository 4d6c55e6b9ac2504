pub mod Text
pub mod Length
pub mod Design
pub mod Write
