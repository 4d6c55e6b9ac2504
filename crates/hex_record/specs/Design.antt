-- How the code goes about it. No answer is defined here, and a reader need not believe any of it.
pub mod End
pub mod There
pub mod Fields
