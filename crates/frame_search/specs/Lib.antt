pub mod Edges
pub mod Match
pub mod Runs
