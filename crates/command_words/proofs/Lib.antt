mod Absent
pub mod Reading
pub mod Asked
