pub mod Kept
pub mod Settling
pub mod Growing
pub mod Pushing
pub mod Receptions
mod Noise
mod Answered
pub mod Skimming
