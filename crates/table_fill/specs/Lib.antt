pub mod Design
