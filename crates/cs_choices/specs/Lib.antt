pub mod Sets
pub mod Nothing
pub mod Design
