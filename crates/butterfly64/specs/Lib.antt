pub mod StagedSums
pub mod PlainSums
pub mod MirrorOrder
pub mod Budgets
pub mod Lanes
pub mod Rows
