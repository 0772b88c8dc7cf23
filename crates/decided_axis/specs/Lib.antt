pub mod Bodies
pub mod Channels
pub mod Laws
