pub mod Parts
pub mod Sent
pub mod Frames
pub mod Captures
