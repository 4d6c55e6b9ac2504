pub mod Index
pub mod Address
pub mod Tables
pub mod Kept
pub mod Steps
