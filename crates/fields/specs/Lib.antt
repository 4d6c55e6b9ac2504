pub mod Fields
pub mod Candidates
