pub mod InOrder
pub mod Inputs
mod OfList
mod OfText
mod AtStart
pub mod Outcomes
mod Flipped
mod InNoise
mod InEchoes
mod InTurns
mod ListsSent
mod Received
