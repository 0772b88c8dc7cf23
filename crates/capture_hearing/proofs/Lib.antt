mod Ending
mod FromSource
mod MoreSamples
