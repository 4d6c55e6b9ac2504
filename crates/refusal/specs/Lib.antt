pub mod Refusal
pub mod First
pub mod Law
