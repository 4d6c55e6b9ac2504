pub mod Encoded
pub mod Law
