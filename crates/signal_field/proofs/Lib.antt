pub mod Headers
pub mod Numbers
pub mod Readings
pub mod Signal
