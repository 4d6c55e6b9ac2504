pub mod RoundTrip
pub mod Stored
pub mod Chain
pub mod Design
