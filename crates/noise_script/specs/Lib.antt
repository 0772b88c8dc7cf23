pub mod Effects
pub mod Items
pub mod Keys
pub mod Noise
pub mod Scripts
