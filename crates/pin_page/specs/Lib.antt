pub mod Roles
pub mod Page
pub mod Design
