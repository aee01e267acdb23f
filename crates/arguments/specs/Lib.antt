pub mod Arguments
pub mod Digits
