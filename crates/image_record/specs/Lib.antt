pub mod ImageRecord
