pub mod Calls
pub mod Counts
pub mod Limits
pub mod Told
pub mod Memory
