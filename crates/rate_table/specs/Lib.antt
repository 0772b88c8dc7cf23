pub mod Table
pub mod Symbols
