pub mod Refused
pub mod Searches
pub mod FourCalls
