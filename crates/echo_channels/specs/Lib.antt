pub mod Channels
pub mod Laws
