pub mod CsDataRecord
pub mod Design
