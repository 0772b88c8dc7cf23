pub mod Draws
pub mod Captures
pub mod Summaries
pub mod Laws
