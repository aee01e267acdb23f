pub mod BlockCalls
pub mod Prefix
