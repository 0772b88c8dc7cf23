pub mod Points
pub mod Carriers
