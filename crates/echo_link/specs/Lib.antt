pub mod Echoed
