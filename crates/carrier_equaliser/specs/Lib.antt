pub mod Received
pub mod Nearness
pub mod Estimates
pub mod Decided
pub mod Laws
