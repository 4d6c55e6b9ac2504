pub mod StoredRecord
