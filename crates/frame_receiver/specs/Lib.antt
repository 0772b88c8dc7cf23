pub mod Faults
pub mod Receiving
pub mod Sound
pub mod Tails
pub mod Noise
