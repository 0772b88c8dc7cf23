pub mod Carriers
pub mod Bins
pub mod Signs
