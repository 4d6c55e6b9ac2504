pub mod Laids
