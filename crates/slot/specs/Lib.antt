pub mod Description
pub mod SlotContext
pub mod Law
