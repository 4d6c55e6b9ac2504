pub mod AddrRecord
