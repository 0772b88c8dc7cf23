pub mod Places
pub mod Chosen
pub mod Walking
pub mod Reporting
