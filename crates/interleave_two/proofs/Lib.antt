pub mod Ways
pub mod ByPlace
mod Tabled
