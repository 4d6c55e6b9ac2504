pub mod Splits
pub mod Verdicts
pub mod Stored
pub mod Answers
mod Found
