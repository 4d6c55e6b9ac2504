pub mod Before
pub mod Law
pub mod Calls
pub mod Padded
