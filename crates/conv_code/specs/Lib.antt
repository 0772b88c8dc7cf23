pub mod Code
pub mod Linear
pub mod States
