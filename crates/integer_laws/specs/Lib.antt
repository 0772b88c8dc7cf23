pub mod Floor
pub mod Size
