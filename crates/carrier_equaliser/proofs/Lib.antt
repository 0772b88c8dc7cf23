pub mod ComingBack
pub mod Numbers
mod Silent
