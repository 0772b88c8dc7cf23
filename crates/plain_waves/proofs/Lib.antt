pub mod Bodies
pub mod Loads
mod Parts
pub mod Places
pub mod Sent
