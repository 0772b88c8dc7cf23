pub mod Starts
mod Hearing
