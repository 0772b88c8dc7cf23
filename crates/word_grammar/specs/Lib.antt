pub mod Lines
pub mod Marks
pub mod Names
pub mod Numbers
pub mod Pairs
pub mod Places
pub mod Signs
