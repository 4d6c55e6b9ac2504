pub mod Case
pub mod Answer
