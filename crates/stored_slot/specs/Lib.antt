pub mod Stored
pub mod Words
pub mod Faults
