pub mod Coded
mod ExclusiveOr
pub mod Inputs
pub mod Linear
