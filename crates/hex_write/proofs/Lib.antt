pub mod Records
pub mod Pieces
pub mod Length
pub mod Chips
pub mod Writes
