pub mod Lookups
pub mod Put
pub mod Step
pub mod Held
pub mod RowRead
