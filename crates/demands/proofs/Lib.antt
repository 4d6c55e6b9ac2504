pub mod Refused
pub mod Found
pub mod AddressSearch
pub mod SelectSearch
pub mod Searches
pub mod FourCalls
