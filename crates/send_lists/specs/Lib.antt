pub mod Sent
pub mod Reading
pub mod Laws
