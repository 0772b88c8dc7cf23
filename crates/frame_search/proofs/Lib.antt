pub mod Table
pub mod Stretches
pub mod Runs
pub mod Fronts
