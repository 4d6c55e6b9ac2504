pub mod Fit
pub mod Sound
pub mod InDomain
pub mod Best
pub mod Law
