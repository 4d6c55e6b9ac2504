pub mod Entry
pub mod Law
pub mod Build
pub mod Design
