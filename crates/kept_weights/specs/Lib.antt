pub mod Decisions
pub mod Potentials
pub mod Weights
