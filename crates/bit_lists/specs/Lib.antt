pub mod Bits
pub mod Text
pub mod Faults
