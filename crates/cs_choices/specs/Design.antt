-- How the code goes about it: what it keeps on the way. No answer is defined here, and a reader need not believe any of it.
pub mod Parts
pub mod Seen
pub mod Laws
