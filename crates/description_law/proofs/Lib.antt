pub mod InDomain
pub mod Encodes
pub mod Valued
pub mod Law
