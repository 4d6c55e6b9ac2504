pub mod AddrSame
pub mod SelectSame
pub mod BuildSame
pub mod Kept
pub mod Candidates
pub mod Law
pub mod Calls
pub mod Padded
