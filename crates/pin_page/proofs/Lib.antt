mod Marks
mod Firsts
pub mod Domain
pub mod Writes
