pub mod Captures
pub mod Faults
