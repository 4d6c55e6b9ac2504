pub mod Each
pub mod Tab
pub mod First
