pub mod Deciding
pub mod Waves
pub mod Laws
