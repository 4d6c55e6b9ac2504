pub mod Sum
pub mod Size
pub mod Law
