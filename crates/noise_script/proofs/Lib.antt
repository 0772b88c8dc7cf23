pub mod Decisions
pub mod Effects
pub mod Items
pub mod Keys
pub mod Noises
pub mod Sames
pub mod Scripts
