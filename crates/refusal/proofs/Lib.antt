pub mod Firsts
pub mod Law
pub mod Places
