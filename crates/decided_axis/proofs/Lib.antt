pub mod Points
pub mod Channels
pub mod Rightly
pub mod Groups
pub mod Symbols
pub mod Waves
pub mod Bodies
pub mod Fitting
