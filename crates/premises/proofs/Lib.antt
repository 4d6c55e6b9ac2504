pub mod Truths
pub mod Wired
pub mod Converse
pub mod HasRoom
pub mod Unforced
pub mod Sames
pub mod StoredWell
pub mod Law
