pub mod Taps
pub mod Texts
pub mod Echoes
pub mod Laws
pub mod Blocks
