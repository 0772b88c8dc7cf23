pub mod Decisions
pub mod Frames
pub mod Laws
