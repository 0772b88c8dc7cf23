pub mod Parts
pub mod Frames
pub mod Sent
