pub mod BitFacts
pub mod ByPlace
pub mod EightBits
pub mod Texts
mod Differences
