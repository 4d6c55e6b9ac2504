pub mod RowsLaid
