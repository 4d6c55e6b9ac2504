pub mod Cleared
pub mod Collected
