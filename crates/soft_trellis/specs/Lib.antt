pub mod Marks
pub mod Values
pub mod Fields
pub mod Text
pub mod Faults
pub mod Laws
