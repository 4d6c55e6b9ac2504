pub mod InDomain
