pub mod Split
pub mod Entries
pub mod Values
pub mod Words
pub mod Placed
