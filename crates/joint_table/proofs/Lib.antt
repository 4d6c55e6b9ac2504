pub mod Count
pub mod Right
