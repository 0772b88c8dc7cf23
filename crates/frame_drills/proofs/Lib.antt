pub mod Back
pub mod Drawing
pub mod Noisy
pub mod Totals
