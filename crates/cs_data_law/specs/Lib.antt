pub mod Sound
pub mod Law
