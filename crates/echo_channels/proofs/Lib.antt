pub mod Sizes
pub mod Late
pub mod Prefix
