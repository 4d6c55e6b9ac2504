pub mod Bounds
pub mod Searched
pub mod Places
