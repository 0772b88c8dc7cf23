pub mod Alike
pub mod Template
pub mod Loud
pub mod Lengths
