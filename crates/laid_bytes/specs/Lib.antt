pub mod Laid
pub mod Law
