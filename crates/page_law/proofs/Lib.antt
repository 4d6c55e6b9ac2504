mod Texts
mod Held
mod HasRoles
pub mod PageLaw
