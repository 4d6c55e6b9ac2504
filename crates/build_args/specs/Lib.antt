pub mod Images
pub mod Args
pub mod Positions
pub mod Picks
pub mod Domain
pub mod Faults
