pub mod Decimals
pub mod Puts
