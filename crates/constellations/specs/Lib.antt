pub mod Axes
pub mod Points
pub mod Decisions
