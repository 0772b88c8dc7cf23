pub mod Blocks
pub mod Decisions
pub mod Distances
pub mod Nearest
pub mod Symbols
