pub mod Fields
pub mod Begun
pub mod FramePlaces
pub mod NearFrames
pub mod FieldLaws
pub mod Symbols
