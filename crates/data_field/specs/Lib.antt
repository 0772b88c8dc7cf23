pub mod Field
pub mod Stages
