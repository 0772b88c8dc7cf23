pub mod ByteMasks
