pub mod Marks
pub mod SoftFields
pub mod Digits
