pub mod Pairs
pub mod PairLists
pub mod Numbers
pub mod Rounding
pub mod Samples
pub mod Turns
pub mod Laws
