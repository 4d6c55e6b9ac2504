pub mod Bools
pub mod Loops
pub mod Each
pub mod Lists
pub mod Tab
pub mod Shifts
pub mod First
pub mod Clauses
