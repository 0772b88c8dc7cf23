pub mod LastSeven
pub mod Fronts
pub mod Period
