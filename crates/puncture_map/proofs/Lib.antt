pub mod Ranks
pub mod Counts
pub mod Carried
pub mod KeptBits
pub mod Periods
