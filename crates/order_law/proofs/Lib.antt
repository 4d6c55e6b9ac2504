pub mod Words
mod Swapped
pub mod Build
mod Joined
pub mod Read
pub mod Law
