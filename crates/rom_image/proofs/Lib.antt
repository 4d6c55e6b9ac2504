pub mod Buildable
pub mod Chips
pub mod Entries
pub mod Read
pub mod Past
pub mod Power
pub mod Places
