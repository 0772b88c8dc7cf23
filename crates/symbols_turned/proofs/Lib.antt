pub mod Pilots
pub mod Turning
pub mod Numbers
pub mod Channels
pub mod Decided
