pub mod Unpacked
pub mod Places
pub mod Law
pub mod Hex
pub mod Page
