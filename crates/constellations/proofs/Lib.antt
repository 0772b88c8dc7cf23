pub mod BitCases
pub mod Gray
pub mod Thresholds
pub mod Nearness
pub mod Backs
pub mod AxisSizes
pub mod AxisTables
