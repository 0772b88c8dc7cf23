pub mod Pilots
pub mod Turned
