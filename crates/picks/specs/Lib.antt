pub mod Positions
pub mod Picks
