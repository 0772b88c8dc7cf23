pub mod Bins
pub mod Tables
pub mod Signs
