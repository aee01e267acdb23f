pub mod Bits
pub mod Number
pub mod Outcome
pub mod Take
