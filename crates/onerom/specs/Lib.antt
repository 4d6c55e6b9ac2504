pub mod Trip
pub mod Wired
