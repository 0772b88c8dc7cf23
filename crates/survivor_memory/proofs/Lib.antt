mod Blocks
mod Branches
mod ByLanes
mod Closing
pub mod Existing
mod Halving
mod Holding
mod Leading
mod Merge
pub mod Order
mod Prefixes
mod Reached
mod Spread
mod Stepping
mod Starting
pub mod Sums
pub mod Tables
