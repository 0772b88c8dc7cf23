pub mod Parts
pub mod Signs
mod Sums
