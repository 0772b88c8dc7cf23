pub mod Costs
pub mod Nearest
pub mod Survivors
