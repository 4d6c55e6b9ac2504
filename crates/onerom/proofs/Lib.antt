pub mod Records
pub mod Places
pub mod WiredLaw
