pub mod MultiCsConfig
pub mod Design
