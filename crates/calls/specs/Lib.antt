pub mod Packed
pub mod Order
pub mod Calls
pub mod Law
pub mod Hex
pub mod Page
