pub mod Lines
pub mod Faults
pub mod Verdicts
pub mod FaultLine
pub mod Bytes
pub mod RoundTrip
