pub mod ByRate
pub mod SymbolCounts
