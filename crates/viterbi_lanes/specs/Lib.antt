pub mod Decisions
pub mod Marks
