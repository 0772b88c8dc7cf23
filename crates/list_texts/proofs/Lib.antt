pub mod Decisions
pub mod HexDigits
pub mod Lines
pub mod Lists
pub mod Rates
pub mod Sames
