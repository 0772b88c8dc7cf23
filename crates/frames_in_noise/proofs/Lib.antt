pub mod Parts
pub mod Codes
pub mod Frames
pub mod Walking
