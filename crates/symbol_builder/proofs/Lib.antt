mod Fronts
mod Polarities
mod CodePoints
pub mod Bins
pub mod Pilots
pub mod SymbolSizes
pub mod PointSizes
pub mod SentSymbols
