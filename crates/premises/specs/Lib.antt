pub mod WellWired
pub mod Room
pub mod Wired
pub mod Same
pub mod Given
pub mod Law
