pub mod Place
pub mod Source
